-- A supervisor, the bytes towards it that a tap has seen and it has not read, and those that it has put out and the tap has not seen;
-- the runs of these over what the tap sees. Assumes nothing: these are definitions.
use mathlib.Core.Path.{◌≡◌}
use mathlib.Core.Bool.{Bool}
use mathlib.Core.List.{List, [], ◌∷◌, ◌++◌}
use mathlib.Core.Option.{Option, none, some}
use Prim.Native.Nat.{ℕ, ◌≤◌}
use Rattle.octets.specs.Bytes.{Each, Byte}
use Rattle.line.specs.Frame.{NonZero}
use Rattle.supervisor.specs.State.{Factory, Settings, Retained, State, fresh}
use Rattle.supervisor.specs.Local.{after_take}
use Rattle.saving.specs.Saving
use Rattle.responder.specs.Requests.{Verdict, receive_byte, owed, reply_frame}
use Rattle.supervisor_claims.specs.Replies.{after_table, reply_by}
use Rattle.tap.specs.Capture.{started, restored, missed, Tick, towards, from, marked}
use Rattle.tap_claims.proofs.Fits.{Held}
use Rattle.tap_claims.proofs.Counted.{Owing}

-- ---- What counts of a state

pub record Core : Type 0 where
  pub factory : Factory
  pub settings : Settings
  pub retained : Option Retained
  pub received : Option (List ℕ)
  pub pending : List ℕ
  pub owes : Bool

abbrev pub core : State → Core
core s = record {
  factory = s.factory;
  settings = s.settings;
  retained = s.retained;
  received = s.received;
  pending = s.pending;
  owes = s.terminator_owed;
}

-- behind a frame with this verdict
abbrev pub carried : List ℕ → State → Verdict → Core
carried image s v =
    let t = after_table image s v in record {
      factory = t.factory;
      settings = t.settings;
      retained = t.retained;
      received = some [];
      pending = owed s.terminator_owed ++ reply_frame (reply_by image s v);
      owes = s.terminator_owed;
    }

-- ---- A state that calls reach

abbrev pub EachReceived : Option (List ℕ) → Type 0
EachReceived none = Unit {0}
EachReceived (some bs) = Each NonZero bs

-- sound parts hold it, at most two 00s are pending, and what is received of a frame has none
pub record Reached (s : State) : Type 0 where
  pub held : Held s
  pub owing : (k : ℕ) × (k ≤ 2) × Owing k s.terminator_owed s.pending
  pub nonzero : EachReceived s.received

-- ---- Runs where each byte is seen as it is read or put out

pub data Plain : State → List Tick → Type 0 where
  over : (s : State) → Plain s []
  read : (image : List ℕ) (b : ℕ) {s : State} {ts : List Tick} → Each Byte image → Byte b → Plain (receive_byte image s b) ts
      → Plain s (towards b ∷ ts)
  put : (b : ℕ) (bs : List ℕ) {s : State} {ts : List Tick} → s.pending ≡ b ∷ bs → Plain (after_take s 1) ts → Plain s (from b ∷ ts)
  local : {s t : State} {ts : List Tick} → core t ≡ core s → Held t → Plain t ts → Plain s ts
  starts : (f : Factory) (s : State) {ts : List Tick} → Held (fresh f) → Plain (fresh f) ts → Plain s (marked started ∷ ts)
  restores : (image : List ℕ) {s t : State} {ts : List Tick} → Saving.restore s image ≡ Saving.left t → Held t → Plain t ts
      → Plain s (marked restored ∷ ts)
  misses : (s : State) {t : State} {ts : List Tick} → Reached t → Plain t ts → Plain s (marked missed ∷ ts)

-- what each step of such a run extends at its front, where no bytes are missed
pub record Steps (P : State → List Tick → Type 0) : Type 0 where
  pub read : (image : List ℕ) (b : ℕ) (s : State) (ts : List Tick) → Each Byte image → Byte b → P (receive_byte image s b) ts
      → P s (towards b ∷ ts)
  pub put : (b : ℕ) (bs : List ℕ) (s : State) (ts : List Tick) → s.pending ≡ b ∷ bs → P (after_take s 1) ts → P s (from b ∷ ts)
  pub local : (s t : State) (ts : List Tick) → core t ≡ core s → Held t → P t ts → P s ts
  pub starts : (f : Factory) (s : State) (ts : List Tick) → Held (fresh f) → P (fresh f) ts → P s (marked started ∷ ts)
  pub restores : (image : List ℕ) (s t : State) (ts : List Tick) → Saving.restore s image ≡ Saving.left t → Held t → P t ts
      → P s (marked restored ∷ ts)

-- ---- Runs over what a tap sees

pub data Run : State → List ℕ → List ℕ → List Tick → Type 0 where
  over : (s : State) (ahead behind : List ℕ) → Run s ahead behind []
  seen : (b : ℕ) {s : State} {ahead behind : List ℕ} {ts : List Tick} → Run s (ahead ++ (b ∷ [])) behind ts
      → Run s ahead behind (towards b ∷ ts)
  read : (image : List ℕ) (b : ℕ) {s : State} {ahead behind : List ℕ} {ts : List Tick} → Each Byte image → Byte b
      → Run (receive_byte image s b) ahead behind ts → Run s (b ∷ ahead) behind ts
  put : (b : ℕ) (bs : List ℕ) {s : State} {ahead behind : List ℕ} {ts : List Tick} → s.pending ≡ b ∷ bs
      → Run (after_take s 1) ahead (behind ++ (b ∷ [])) ts → Run s ahead behind ts
  heard : (b : ℕ) {s : State} {ahead behind : List ℕ} {ts : List Tick} → Run s ahead behind ts → Run s ahead (b ∷ behind) (from b ∷ ts)
  local : {s t : State} {ahead behind : List ℕ} {ts : List Tick} → core t ≡ core s → Held t → Run t ahead behind ts → Run s ahead behind ts
  starts : (f : Factory) (s : State) {ts : List Tick} → Held (fresh f) → Run (fresh f) [] [] ts → Run s [] [] (marked started ∷ ts)
  restores : (image : List ℕ) {s t : State} {ts : List Tick} → Saving.restore s image ≡ Saving.left t → Held t → Run t [] [] ts
      → Run s [] [] (marked restored ∷ ts)
  misses : (s : State) {t : State} {ts : List Tick} → Reached t → Run t [] [] ts → Run s [] [] (marked missed ∷ ts)
