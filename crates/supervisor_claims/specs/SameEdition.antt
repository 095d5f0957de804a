-- A key at two moments, and two lookups of it that hand out an edition.
-- Each lookup is over the wire in version 2 or by the local calls. Assumes nothing: these are definitions and statements.
use Rattle.std.specs.Prelude.{◌≡◌, List, [], ◌∷◌, ◌++◌, ◌⊎◌, ℕ, ◌<◌, length}
use Rattle.std.proofs.Common.{inl, inr}
use Rattle.octets.specs.Bytes.{Each, bytes}
use Rattle.line.specs.Numbers.{second_version, reply_key_lookup}
use Rattle.line.specs.Frame.{frame, split}
use Rattle.supervisor.specs.Number.{top_set}
use Rattle.supervisor.specs.Limits.{SettingsKey}
use Rattle.supervisor.specs.Local
use Rattle.supervisor.specs.Calls.{Parts}
use Rattle.responder.specs.Requests.{good, verdict}
use Rattle.supervisor_claims.specs.View.{view}
use Rattle.supervisor_claims.specs.LocalCalls.{Change, local_row}
use Rattle.supervisor_claims.specs.Histories
use Rattle.supervisor_claims.specs.Histories.{LocalCall, Typed, found, found_edition, Lent, Made, made, left, AllTyped, receive_with}
use Rattle.supervisor_claims.specs.Histories.{locally}
use Rattle.supervisor_claims.specs.FrameHistory.{received_since_all, RepliedWith}
use Rattle.supervisor_claims.specs.LastSet.{Stays, lookup_message, ReadBack}

-- ---- A key at two moments

-- Behind the calls ms on the parts q, and behind the calls ns too, none of which is an accepted start or an accepted restore.
-- The value is none where the key has none.
abbrev pub SameEdition : Parts → Type 0
SameEdition q = (ms ns : List Made) → AllTyped ms → AllTyped ns → Each Stays ns → (k : ℕ) → SettingsKey k
    → let x = Local.entry_of (view (left q ms)) k in let y = Local.entry_of (view (left q (ms ++ ns))) k in
    y.edition ≡ x.edition → y.value ≡ x.value

-- ---- Lookups that hand out an edition

-- the reply in version 2 that hands out an edition and a value
unfoldable pub edition_reply : ℕ → ℕ → List ℕ → List ℕ
edition_reply n edition v =
    frame (record { version = second_version; sequence = top_set n; command = reply_key_lookup; payload = 0 ∷ (bytes 4 edition ++ v) })

-- Over the wire, behind the calls ms on the parts q, the bytes `ahead` and a 00 are received. The frame that this 00 closes is a lookup of
-- key k in version 2. Its reply has result 0, this edition and the value v.
-- A receive whose piece ends with that 00 stands for any (`OnRequest`).
pub record WireLookup (q : Parts) (ms : List Made) (k edition : ℕ) (v : List ℕ) : Type 0 where
  pub number : ℕ
  pub most : ℕ
  pub most_fits : most < 65536
  pub lent : Lent
  pub image : List ℕ
  pub ahead : List ℕ
  pub typed : Typed (Histories.receive image (ahead ++ (0 ∷ [])))
  pub request : verdict (split (received_since_all [] ms ++ ahead)).rest ≡ good (lookup_message second_version number k most)
  pub reply : let r = left q ms in RepliedWith r (made r (receive_with image lent (ahead ++ (0 ∷ [])))) (edition_reply number edition v)

-- By the local calls, behind the calls ms on the parts q. The lookup answers 0 and hands out v.
-- The other call answers 0 and this edition.
-- Neither changes the parts (`reads_leave`), so that either may come first, and what comes behind them comes behind ms.
pub record LocalLookup (q : Parts) (ms : List Made) (k edition : ℕ) (v : List ℕ) : Type 0 where
  pub most : ℕ
  pub most_fits : most < 65536
  pub lookup_lent : Lent
  pub lookup : let r = made (left q ms) (locally lookup_lent (Histories.lookup k most)) in (r.answer ≡ found 0 (length v)) × (r.out ≡ v)
  pub edition_lent : Lent
  pub edition_asked : (made (left q ms) (locally edition_lent (Histories.edition k))).answer ≡ found_edition 0 edition

abbrev pub LookedUp : Parts → List Made → ℕ → ℕ → List ℕ → Type 0
LookedUp q ms k edition v = WireLookup q ms k edition v ⊎ LocalLookup q ms k edition v

-- the call that brings a request over the wire
abbrev pub lookup_calls : {q : Parts} {ms : List Made} {k edition : ℕ} {v : List ℕ} → LookedUp q ms k edition v → List Made
lookup_calls (inl x) = (receive_with x.image x.lent (x.ahead ++ (0 ∷ []))) ∷ []
lookup_calls (inr x) = []

-- ---- Two lookups, and what the local ones leave

-- A lookup comes behind the calls ms on the parts q.
-- Then come the calls ns, none of which is an accepted start or an accepted restore.
-- Another lookup of that key comes last, with the same edition.
abbrev pub SameEditionSameList : Parts → Type 0
SameEditionSameList q =
    (ms : List Made) → AllTyped ms → (k edition : ℕ) → ReadBack k → (v w : List ℕ) (x : LookedUp q ms k edition v)
    → (ns : List Made) → AllTyped ns → Each Stays ns → LookedUp q (ms ++ (lookup_calls x ++ ns)) k edition w → w ≡ v

-- of a call that only reads
abbrev pub ReadsLeave : Type 0
ReadsLeave = (q : Parts) (j : Lent) (c : LocalCall) → (local_row c).change ≡ Change.nothing → (made q (locally j c)).parts ≡ q
