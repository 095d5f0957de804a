-- Two states that differ only in the passphrase's setting.
-- What a request, received bytes and a call make of them is the same but for that setting. Assumes nothing.
use mathlib.Core.Path.{◌≡◌, refl, sym, ap, subst, ◌∙◌}
use mathlib.Core.Logic.{◌⊎◌, inl, inr}
use mathlib.Core.Bool.{Bool, true, false, cond, not, false≢true}
use mathlib.Core.List.{List, [], ◌∷◌}
use mathlib.Core.Option.{Option, none, some}
use Prim.Native.Nat.{ℕ, zero, suc, ◌+◌, ◌-◌, ◌≤◌, ◌<◌}
use native.Mathlib.Nat.{add-zero}
use native.Mathlib.Omega.{arith}
use lib.Dec.{ltb, eqb}
use lib.ListN.{length, take, drop, set, length-append}
use lib.Seq.{drop-drop, set-set, set_comm}
use borrow.Author.Tests.{ltb-false, eqb-true, eqb-false, ne_eqb, not-false}
use Rattle.octets.specs.Bytes.{number, number_at}
use Rattle.octets.proofs.Conditions.{cond-by, cond_both}
use Rattle.octets.proofs.SameBytes
use Rattle.octets.proofs.SameBytes.{same_first}
use Rattle.line.specs.Message.{Message}
use Rattle.line.specs.Frame.{non_empty, closed_behind}
use Rattle.supervisor.specs.Layout
use Rattle.supervisor.specs.Limits
use Rattle.supervisor.specs.Limits.{SettingsKey}
use Rattle.supervisor.specs.State.{Setting, unset, Settings, Retained, State, setting, with_setting, with_settings, with_received}
use Rattle.supervisor.specs.State.{fresh}
use Rattle.supervisor.specs.Local
use Rattle.supervisor.proofs.OffsetLaws.{offset-within, Lies, setting-lies}
use Rattle.supervisor.specs.Valid.{SettingsValid}
use Rattle.saving.specs.Saving
use Rattle.responder.specs.Commands.{Command, command_number, command_of_number}
use Rattle.responder.specs.Requests
use Rattle.responder.specs.Requests.{Verdict, failure, good, verdict, Carried, effect, carry_out_by, carry_out, wrong_value_length, Stored}
use Rattle.responder.specs.Requests.{store_value, served_of, served_by, after_verdict, sent}
use Rattle.responder.proofs.CommandLaws.{number_is}
use Rattle.supervisor_claims.specs.View.{factory_of, setting_of, settings_of}
use Rattle.supervisor_claims.specs.Histories
use Rattle.supervisor_claims.specs.Histories.{LocalCall, Call, Means, done_means, up_to, meant, Made, enough}
use Rattle.supervisor_claims.specs.FrameHistory.{piece_read, is_accepted_start, bytes_received_by, starts_anew, frames_closed_by}
use Rattle.supervisor_claims.specs.FrameHistory.{said_by_frames, served_by_frames, frame_carried, frames_carried, carried_out, carried_call}
use Rattle.supervisor_claims.specs.FrameHistory.{carried_made}
use Rattle.supervisor_claims.specs.LastSet.{request_ahead, requests_in, value_for, set_by, listed_if, sets_of, records_restored}
use Rattle.supervisor_claims.proofs.laws.ViewLaws.{length-listed, listed-set}
use Rattle.supervisor_claims.proofs.laws.SettingLaws.{setting-is, setting_same}
use Rattle.supervisor_claims.proofs.laws.AlikeLaws.{Alike, other-setting, lookup-same}
use Rattle.supervisor_claims.proofs.laws.Progress.{local-settings}
use Rattle.supervisor_claims.proofs.calls.RowLaws.{settings_by}
use Rattle.supervisor_claims.proofs.calls.LocalLaws.{row_laws}
use Rattle.supervisor_claims.proofs.claims.LastSetLaws.{replaced-long, replaced_other, onto, after_sets, request-append, sets-append}
use Rattle.supervisor_claims.proofs.claims.LastSetLaws.{judged-has}

-- ---- settings and states that differ only in the passphrase's setting

pub record Like (s t : State) : Type 0 where
  pub rest : s ≡ with_settings t s.settings
  pub settings : Alike s.settings t.settings

-- the passphrase's editions: both can grow by n, or they are equal
abbrev pub Grow : ℕ → ℕ → ℕ → Type 0
Grow n a b = ((a + n ≤ Limits.last_edition) × (b + n ≤ Limits.last_edition)) ⊎ (a ≡ b)

pub grow-less : {m n a b : ℕ} → m ≤ n → Grow n a b → Grow m a b
grow-less h (inl r) = inl (omega (arith, r.0), omega (arith, r.1))
grow-less h (inr e) = inr e

-- by more than they can, they are equal
pub grow-equal : {n a b : ℕ} → Limits.last_edition < n → Grow n a b → a ≡ b
grow-equal h (inl r) = absurd (omega (arith, r.0))
grow-equal h (inr e) = e

-- so that a set finds both at the last or neither
pub grow_last : {n a b : ℕ} → 1 ≤ n → Grow n a b → eqb a Limits.last_edition ≡ eqb b Limits.last_edition
grow_last {n} {a} {b} h (inl r) =
    ne_eqb a Limits.last_edition (λ e. omega (arith, e, r.0)) ∙ sym (ne_eqb b Limits.last_edition (λ e. omega (arith, e, r.1)))
grow_last h (inr e) = ap (λ (n : ℕ). eqb n Limits.last_edition) e

-- so in two stores of all settings
pub record Room (n : ℕ) (z y : Settings) : Type 0 where
  pub left_long : length z ≡ Limits.setting_count
  pub right_long : length y ≡ Limits.setting_count
  pub grow : Grow n (setting z Limits.passphrase_key).edition (setting y Limits.passphrase_key).edition

pub record Pair (n : ℕ) (s t : State) : Type 0 where
  pub like : Like s t
  pub room : Room n s.settings t.settings

pub passphrase : SettingsKey Limits.passphrase_key
passphrase = record { lower = omega arith; upper = omega arith }

pub room-less : {m n : ℕ} {z y : Settings} → m ≤ n → Room n z y → Room m z y
room-less h r = record { left_long = r.left_long; right_long = r.right_long; grow = grow-less h r.grow }

pair-less : {m n : ℕ} {s t : State} → m ≤ n → Pair n s t → Pair m s t
pair-less h p = record { like = p.like; room = room-less h p.room }

-- ---- keys that are set

abbrev StoredAlike : Stored → Stored → Type 0
StoredAlike t u = (t.result ≡ u.result) × Alike t.settings u.settings

abbrev at_last : Settings → Bool
at_last z = eqb (setting z Limits.passphrase_key).edition Limits.last_edition

module _ (z y : Settings) (e : Alike z y) (v : List ℕ) where
  -- the passphrase, if a value of a right length finds the edition at the last in both or in neither
  stored-passphrase : (wrong_value_length Limits.passphrase_key (length v) ≡ false → at_last z ≡ at_last y)
      → StoredAlike (store_value z Limits.passphrase_key v) (store_value y Limits.passphrase_key v)
  unfolding store_value
  stored-passphrase low =
      let i = Limits.passphrase_key - Limits.first_setting in
      cond_both StoredAlike (wrong_value_length Limits.passphrase_key (length v)) (λ f. (refl, e)) (λ f.
      rw (low f)
      (cond_both StoredAlike (at_last y) (λ g. (refl, e)) (λ g. (refl, set-set z i _ unset ∙ e ∙ sym (set-set y i _ unset)))))

  stored_other : (key : ℕ) → (key ≡ Limits.passphrase_key → ⊥) → StoredAlike (store_value z key v) (store_value y key v)
  unfolding store_value
  stored_other key n =
      cond_both StoredAlike (ltb Limits.highest_key key) (λ f. (refl, e)) (λ f.
      cond_both StoredAlike (ltb key Limits.first_setting) (λ g. (refl, e)) (λ g.
      let h = ltb-false key Limits.first_setting g in
      let i = Limits.passphrase_key - Limits.first_setting in
      let j = key - Limits.first_setting in
      let o : j ≡ i → ⊥ = λ m. n (omega (arith, m)) in
      let u : Setting = record { edition = suc (setting y key).edition; value = some v } in
      rw (other-setting z y e key h n)
      (cond_both StoredAlike (wrong_value_length key (length v)) (λ k. (refl, e)) (λ k.
      cond_both StoredAlike (eqb (setting y key).edition Limits.last_edition) (λ l. (refl, e)) (λ l.
      (refl, set_comm z j i u unset o ∙ ap (λ (x : Settings). set x j u) e ∙ sym (set_comm y j i u unset o)))))))

-- by a key set's data
data-alike : (z y : Settings) → Alike z y → (bs : List ℕ)
    → Room (length (listed_if (value_for Limits.passphrase_key bs))) z y
    → StoredAlike (store_value z (number_at 1 bs 0) (drop 1 bs)) (store_value y (number_at 1 bs 0) (drop 1 bs))
unfolding number store_value value_for
data-alike z y e [] r = (refl, e)
data-alike z y e (key ∷ v) r = rw add-zero (by (eqb key Limits.passphrase_key) refl)
  where
    both : eqb key Limits.passphrase_key ≡ true → wrong_value_length Limits.passphrase_key (length v) ≡ false → at_last z ≡ at_last y
    both f g = grow_last (omega arith) (rw (f, g) at r.grow)

    by : (t : Bool) → eqb key Limits.passphrase_key ≡ t → StoredAlike (store_value z key v) (store_value y key v)
    by true f = rw (eqb-true key Limits.passphrase_key f) (stored-passphrase z y e v (both f))
    by false f = stored_other z y e v key (eqb-false key Limits.passphrase_key f)

-- ---- a request

record SameCarried (c d : Carried) : Type 0 where
  reply : c.reply ≡ d.reply
  state : Like c.state d.state

module _ (image : List ℕ) (m : Message) (t : State) (z : Settings) (e : Alike z t.settings)
    (room : Room (length (listed_if (set_by Limits.passphrase_key m))) z t.settings) where
  abbrev s : State
  s = with_settings t z

  -- the settings are as before
  still : {r : Option Requests.ReplyContent} {u : State} → Alike z u.settings
      → SameCarried (record { state = with_settings u z; reply = r }) (record { state = u; reply = r })
  still f = record { reply = refl; state = record { rest = refl; settings = f } }

  alert-same : (r : Option Retained)
      → SameCarried (Requests.alert_asked m.version s m.sequence r) (Requests.alert_asked m.version t m.sequence r)
  unfolding Requests.alert_asked Requests.alert_taken
  alert-same none = still e
  alert-same (some r) = cond_both SameCarried (eqb r.sequence m.sequence) (λ f. still e) (λ f. still e)

  set_same : m.command ≡ command_number Command.key_set
      → SameCarried (Requests.key_set m.version s m.payload) (Requests.key_set m.version t m.payload)
  unfolding command_number set_by Requests.key_set
  set_same n =
      let k = data-alike z t.settings e m.payload (rw n at room) in
      record { reply = rw k.0; state = record { rest = refl; settings = k.1 } }

  effect-same : (x : Command) → m.command ≡ command_number x → SameCarried (effect x image s m) (effect x image t m)
  unfolding effect Requests.reboot Requests.power_off Requests.boot_failure Requests.panicked Requests.start_acknowledged
  effect-same Command.reboot n = still e
  effect-same Command.power-off n = still e
  effect-same Command.bsu n = still e
  effect-same Command.identity n = still e
  effect-same Command.mac n = still e
  effect-same Command.boot-failure n = still e
  effect-same Command.panic n = still e
  effect-same Command.status n = still e
  effect-same Command.start-acknowledged n = still e
  effect-same Command.alert n = alert-same t.retained
  effect-same Command.image_block n = still e
  effect-same Command.key_lookup n = rw (lookup-same t z e (number_at 1 m.payload 0) (number_at 2 m.payload 1)) (still e)
  effect-same Command.inventory n = still e
  effect-same Command.key_set n = set_same n

  carried_same : SameCarried (carry_out image s m) (carry_out image t m)
  unfolding carry_out
  carried_same = by (command_of_number m.command) refl
    where
      by : (o : Option Command) → command_of_number m.command ≡ o → SameCarried (carry_out_by o image s m) (carry_out_by o image t m)
      by none f = still e
      by (some x) f = effect-same x (number_is m.command f)

-- ---- a frame

-- by the first state's settings
from-like : (P : State → State → Type 0) → ((u : State) (z : Settings) → Alike z u.settings → P (with_settings u z) u) → {s t : State}
    → Like s t → P s t
from-like P f {s} {t} l = subst (λ (x : State). P x t) (sym l.rest) (f t s.settings l.settings)

sent-like : (r : Option Requests.Reply) {s t : State} → Like s t → Like (sent s r) (sent t r)
unfolding sent
sent-like r = from-like (λ s t. Like (sent s r) (sent t r)) (λ u z e. record { rest = refl; settings = e })

received-like : (r : Option (List ℕ)) {s t : State} → Like s t → Like (with_received s r) (with_received t r)
received-like r = from-like (λ s t. Like (with_received s r) (with_received t r)) (λ u z e. record { rest = refl; settings = e })

-- how many sets of the passphrase with a value of a right length there are among requests
abbrev pub set_count : List Message → ℕ
set_count ms = length (sets_of Limits.passphrase_key ms)

onto-raise : (x : Setting) (o : Option (List ℕ)) → (onto x o).edition ≤ x.edition + length (listed_if o)
onto-raise x none = omega arith
onto-raise x (some v) =
    cond-by (λ (y : Setting). y.edition ≤ x.edition + 1) (eqb x.edition Limits.last_edition) _ _ (λ e. omega arith) (λ e. omega arith)

-- they raise the edition by no more
sets-raise : (k : ℕ) (x : Setting) (ms : List Message) → (after_sets k x ms).edition ≤ x.edition + length (sets_of k ms)
unfolding after_sets sets_of
sets-raise k x [] = omega arith
sets-raise k x (m ∷ ms) =
    omega (arith, sets-raise k (onto x (set_by k m)) ms, onto-raise x (set_by k m), length-append (listed_if (set_by k m)) (sets_of k ms))

-- a frame's, and then those of others
pub count-ahead : (v : Verdict) (r : List Message) → set_count (request_ahead v r) ≡ set_count (request_ahead v []) + set_count r
count-ahead v r =
    let k = Limits.passphrase_key in
    rw (request-append v [] r, sets-append k (request_ahead v []) r) (length-append (sets_of k (request_ahead v [])) (sets_of k r))

-- and equal editions to equal ones
onto-edition : (x : Setting) (v : List ℕ) → let n = x.edition in (onto x (some v)).edition ≡ cond (eqb n Limits.last_edition) n (suc n)
onto-edition x v = by (eqb x.edition Limits.last_edition)
  where
    by : (t : Bool) → (cond t x (record { edition = suc x.edition; value = some v })).edition ≡ cond t x.edition (suc x.edition)
    by true = refl
    by false = refl

onto-equal : (x y : Setting) (o : Option (List ℕ)) → x.edition ≡ y.edition → (onto x o).edition ≡ (onto y o).edition
onto-equal x y none e = e
onto-equal x y (some v) e =
    onto-edition x v ∙ ap (λ (n : ℕ). cond (eqb n Limits.last_edition) n (suc n)) e ∙ sym (onto-edition y v)

sets-equal : (k : ℕ) (x y : Setting) (ms : List Message) → x.edition ≡ y.edition → (after_sets k x ms).edition ≡ (after_sets k y ms).edition
unfolding after_sets
sets-equal k x y [] e = e
sets-equal k x y (m ∷ ms) e = sets-equal k (onto x (set_by k m)) (onto y (set_by k m)) ms (onto-equal x y (set_by k m) e)

sets-grow : (k : ℕ) (x y : Setting) (ms : List Message) (n : ℕ) → Grow (length (sets_of k ms) + n) x.edition y.edition
    → Grow n (after_sets k x ms).edition (after_sets k y ms).edition
sets-grow k x y ms n (inl r) = inl (omega (arith, r.0, sets-raise k x ms), omega (arith, r.1, sets-raise k y ms))
sets-grow k x y ms n (inr e) = inr (sets-equal k x y ms e)

module _ (image : List ℕ) where
  pub judged-room : (v : Verdict) (n : ℕ) (s t : State) → Room (set_count (request_ahead v []) + n) s.settings t.settings
      → Room n (after_verdict image s v).settings (after_verdict image t v).settings
  judged-room v n s t r =
      let k = Limits.passphrase_key in
      let x = setting s.settings k in
      let y = setting t.settings k in
      let g = judged-has image passphrase s v x (record { long = r.left_long; held = refl }) in
      let h = judged-has image passphrase t v y (record { long = r.right_long; held = refl }) in
      record {
        left_long = g.long;
        right_long = h.long;
        grow = rw (g.held, h.held) (sets-grow k x y (request_ahead v []) n r.grow);
      }

  judged-like : (v : Verdict) {s t : State} → Pair (set_count (request_ahead v [])) s t
      → Like (after_verdict image s v) (after_verdict image t v)
  unfolding after_verdict sets_of
  judged-like (failure reason version sequence) p = sent-like _ p.like
  judged-like (good m) {s} {t} p =
      let n = length-append (listed_if (set_by Limits.passphrase_key m)) [] in
      let c = subst (λ (x : State). SameCarried (carry_out image x m) (carry_out image t m)) (sym p.like.rest)
      (carried_same image m t s.settings p.like.settings (room-less (omega arith) p.room)) in
      rw c.reply (sent-like _ c.state)

  judged-pair : (v : Verdict) (n : ℕ) (s t : State) → Pair (set_count (request_ahead v []) + n) s t
      → Pair n (after_verdict image s v) (after_verdict image t v)
  judged-pair v n s t p =
      record { like = judged-like v (pair-less (omega arith) p); room = judged-room v n s t p.room }

  frames-pair : (fs : List (List ℕ)) (n : ℕ) (s t : State) → let gs = non_empty fs in Pair (set_count (requests_in gs) + n) s t
      → Pair n (frames_carried image s gs) (frames_carried image t gs)
  unfolding non_empty frames_carried frame_carried requests_in sets_of
  frames-pair [] n s t p = pair-less (omega arith) p
  frames-pair ([] ∷ fs) n s t p = frames-pair fs n s t p
  frames-pair ((b ∷ bs) ∷ fs) n s t p =
      let v = verdict (b ∷ bs) in
      let r = requests_in (non_empty fs) in
      let e = count-ahead v r in
      frames-pair fs n (after_verdict image s v) (after_verdict image t v) (judged-pair v (set_count r + n) s t (pair-less (omega arith) p))

  -- bytes that came behind w
  bytes_pair : (w bs : List ℕ) (n : ℕ) (s t : State) → Pair (set_count (requests_in (frames_closed_by w bs)) + n) s t
      → Pair n (carried_out image w s bs) (carried_out image w t bs)
  unfolding carried_out frames_closed_by
  bytes_pair w bs n s t p =
      let q = frames-pair (closed_behind w bs) n s t p in
      record { like = received-like _ q.like; room = q.room }

-- ---- what is told of a frame

served-same : (v : Verdict) {s t : State} → Pair (set_count (request_ahead v [])) s t → served_by s.settings v ≡ served_by t.settings v
unfolding served_by sets_of set_by command_number
served-same (failure reason version sequence) p = refl
served-same (good m) {s} {t} p = by (eqb m.command (command_number Command.key_set)) refl
  where
    by : (b : Bool) → eqb m.command (command_number Command.key_set) ≡ b
        → served_by s.settings (good m) ≡ served_by t.settings (good m)
    by true f =
        let n = length-append (listed_if (set_by Limits.passphrase_key m)) [] in
        let e = eqb-true m.command (command_number Command.key_set) f in
        let r : Room (length (listed_if (set_by Limits.passphrase_key m))) s.settings t.settings = room-less (omega arith) p.room in
        ap (served_of m) (data-alike s.settings t.settings p.like.settings m.payload (rw e at r)).0
    by false f = rw f

-- the first of the frames that calls bring
frames-served : (fs : List (List ℕ)) (n : ℕ) (s t : State) → Pair (set_count (requests_in (non_empty fs)) + n) s t
    → served_by_frames s.settings fs ≡ served_by_frames t.settings fs
unfolding said_by_frames non_empty requests_in
frames-served [] n s t p = refl
frames-served ([] ∷ fs) n s t p = refl
frames-served ((b ∷ bs) ∷ fs) n s t p =
    let e = count-ahead (verdict (b ∷ bs)) (requests_in (non_empty fs)) in served-same (verdict (b ∷ bs)) (pair-less (omega arith) p)

-- ---- saving and restoring: the passphrase is not among the saved settings

module _ (es : List Saving.SavedEntry) where
  -- what is replaced lies before it
  replaced-set : (n : ℕ) → n ≤ Saving.saved_count → (z : Settings)
      → with_setting (Saving.replaced n es z) Limits.passphrase_key unset
      ≡ Saving.replaced n es (with_setting z Limits.passphrase_key unset)
  unfolding Saving.replaced
  replaced-set zero h z = refl
  replaced-set (suc n) h z =
      let x = Saving.setting_in (Limits.first_setting + n) es in
      set_comm (Saving.replaced n es z) (Limits.first_setting + n - Limits.first_setting) (Limits.passphrase_key - Limits.first_setting) x
      unset (λ e. omega (arith, e))
      ∙ ap (λ (y : Settings). with_setting y (Limits.first_setting + n) x) (replaced-set n (omega arith) z)

  restored-alike : (z y : Settings) → Alike z y → Alike (Saving.restored_settings es z) (Saving.restored_settings es y)
  restored-alike z y e =
      replaced-set Saving.saved_count (omega arith) z ∙ ap (Saving.replaced Saving.saved_count es) e
      ∙ sym (replaced-set Saving.saved_count (omega arith) y)

  restored-room : (n : ℕ) (z y : Settings) → Room n z y → Room n (Saving.restored_settings es z) (Saving.restored_settings es y)
  restored-room n z y r =
      let k = Saving.saved_count in
      record {
        left_long = replaced-long es k z ∙ r.left_long;
        right_long = replaced-long es k y ∙ r.right_long;
        grow = rw (
          replaced_other es k z Limits.passphrase_key passphrase (omega arith),
          replaced_other es k y Limits.passphrase_key passphrase (omega arith),
        )
            r.grow;
      }

-- ---- a call

-- what two runs answer, write outside the state and leave
pub record Same (n : ℕ) (a b : Means) : Type 0 where
  pub answer : a.answer ≡ b.answer
  pub out : a.out ≡ b.out
  pub pair : Pair n a.state b.state

-- settings after a restore, where there is one
settings-alike : (o : Option (List Saving.SavedEntry)) (z y : Settings) → Alike z y → Alike (settings_by o z) (settings_by o y)
settings-alike none z y e = e
settings-alike (some es) z y e = restored-alike es z y e

settings-room : (o : Option (List Saving.SavedEntry)) (n : ℕ) (z y : Settings) → Room n z y → Room n (settings_by o z) (settings_by o y)
settings-room none n z y r = r
settings-room (some es) n z y r = restored-room es n z y r

-- a local call
module _ (n : ℕ) (t : State) (z : Settings) (e : Alike z t.settings) (room : Room n z t.settings) where
  local_by : (c : LocalCall) → Same n (meant (with_settings t z) (Histories.local c)) (meant t (Histories.local c))
  unfolding records_restored
  local_by c =
      let o = records_restored c in
      rw ((row_laws c).alike t z e)
      (record {
        answer = refl;
        out = refl;
        pair = record {
          like = record { rest = refl; settings = rw (local-settings t c) (settings-alike o z t.settings e) };
          room = rw (local-settings t c) (settings-room o n z t.settings room);
        };
      })

local_same : (c : LocalCall) (n : ℕ) (s t : State) → Pair n s t → Same n (meant s (Histories.local c)) (meant t (Histories.local c))
local_same c n s t p =
    subst (λ (x : State). Same n (meant x (Histories.local c)) (meant t (Histories.local c))) (sym p.like.rest)
    (local_by n t s.settings p.like.settings p.room c)

-- a start that is accepted: the same fresh state
start-same : (w : List ℕ) (s t : State) (c : Call) → is_accepted_start c ≡ true → carried_call w s c ≡ carried_call w t c
unfolding is_accepted_start carried_call meant Local.start
start-same w s t (Histories.start d) e = by (Local.bad_start (factory_of d)) e
  where
    by : (bad : Bool) → not bad ≡ true
        → let done = cond bad (Local.refused 11) (Local.left (fresh (factory_of d))) in done_means s done ≡ done_means t done
    by true f = absurd (false≢true f)
    by false f = refl
start-same w s t (Histories.receive image piece) e = absurd (false≢true e)
start-same w s t (Histories.step image piece) e = absurd (false≢true e)
start-same w s t (Histories.local c) e = absurd (false≢true e)

step-told : (w bs : List ℕ) (n : ℕ) (s t : State) → Pair (set_count (requests_in (frames_closed_by w bs)) + n) s t
    → served_by_frames s.settings (closed_behind w bs) ≡ served_by_frames t.settings (closed_behind w bs)
unfolding frames_closed_by
step-told w bs n s t p = frames-served (closed_behind w bs) n s t p

-- any other call, by the bytes that it reads behind w
call_same : (w : List ℕ) (n : ℕ) (s t : State) (c : Call) → is_accepted_start c ≡ false
    → Pair (set_count (requests_in (frames_closed_by w (piece_read c))) + n) s t → Same n (carried_call w s c) (carried_call w t c)
unfolding is_accepted_start piece_read carried_call meant Local.start
call_same w n s t (Histories.start d) e p =
    rw (not-false (Local.bad_start (factory_of d)) e) (record { answer = refl; out = refl; pair = pair-less (omega arith) p })
call_same w n s t (Histories.receive image piece) e p = record { answer = refl; out = refl; pair = bytes_pair image w piece n s t p }
call_same w n s t (Histories.step image piece) e p =
    let bs = take (up_to piece) piece in
    record { answer = rw (step-told w bs n s t p); out = refl; pair = bytes_pair image w bs n s t p }
call_same w n s t (Histories.local c) e p = local_same c n s t (pair-less (omega arith) p)

-- whatever is lent
module _ (w : List ℕ) (s t : State) (m : Made) where
  pub anew-same : starts_anew m ≡ true → carried_made w s m ≡ carried_made w t m
  unfolding starts_anew carried_made
  anew-same e = by (enough m.call m.lent) refl
    where
      by : (b : Bool) → enough m.call m.lent ≡ b → carried_made w s m ≡ carried_made w t m
      by true f = rw (f, start-same w s t m.call (rw f at e))
      by false f = absurd (false≢true (rw f at e))

  pub made-same : (n : ℕ) → starts_anew m ≡ false → Pair (set_count (requests_in (frames_closed_by w (bytes_received_by m))) + n) s t
      → Same n (carried_made w s m) (carried_made w t m)
  unfolding starts_anew bytes_received_by carried_made
  made-same n e p = by (enough m.call m.lent) refl
    where
      by : (b : Bool) → enough m.call m.lent ≡ b → Same n (carried_made w s m) (carried_made w t m)
      by true f = rw f (call_same w n s t m.call (rw f at e) (rw f at p))
      by false f = rw f (record { answer = refl; out = refl; pair = pair-less (omega arith) p })

-- ---- the settings store

-- lists with the same bytes from an offset on
same-last : (from to : ℕ) (r s : List ℕ) → drop from s ≡ drop from r → SameBytes.Same from to r s
same-last from to r s e = record {
  runs = λ j n h.
      let d : j ≡ from + (j - from) = omega arith in
      rw (d, ← drop-drop (j - from) from s, ← drop-drop (j - from) from r, e);
}

-- the passphrase's record lies between two offsets
module _ (s t : List ℕ) (v : SettingsValid s)
    (ahead : take (Layout.setting_offset Limits.passphrase_key) s ≡ take (Layout.setting_offset Limits.passphrase_key) t)
    (end : ℕ) (long : end
    ≡ Layout.setting_offset Limits.passphrase_key + (Layout.setting_value_offset + Limits.longest_setting Limits.passphrase_key))
    (behind : drop end s ≡ drop end t) where
  -- another key's setting lies ahead of it or behind it
  other-same : (key : ℕ) → SettingsKey key → Lies key Limits.passphrase_key → (key ≡ Limits.passphrase_key → ⊥)
      → setting_of t (Layout.setting_offset key) ≡ setting_of s (Layout.setting_offset key)
  other-same key h (inl l) n =
      setting_same (same_first (Layout.setting_offset Limits.passphrase_key) s t (sym ahead)) (Layout.setting_offset key) _ (v.each key h)
      (omega arith)
  other-same key h (inr (inl e)) n = absurd (n e)
  other-same key h (inr (inr l)) n =
      setting_same (same-last end Layout.settings_length s t (sym behind)) (Layout.setting_offset key) _ (v.each key h)
      (omega (arith, offset-within key h))

  pub store-alike : Alike (settings_of s) (settings_of t)
  unfolding settings_of
  store-alike =
      let i = Limits.passphrase_key - Limits.first_setting in
      let f : List ℕ → ℕ → Setting = λ l j. setting_of l (Layout.setting_offset (Limits.first_setting + j)) in
      let g : ℕ → Setting = λ j. cond (eqb j i) unset (f s j) in
      sym (listed-set (f s) g unset Limits.setting_count i (omega arith) refl (λ j l n. rw (ne_eqb j i n)))
      ∙ listed-set (f t) g unset Limits.setting_count i (omega arith) refl (λ j l n.
      let key = Limits.first_setting + j in
      let h : SettingsKey key = record { lower = omega arith; upper = omega arith } in
      rw (ne_eqb j i n) (sym (other-same key h (setting-lies key Limits.passphrase_key h passphrase) (λ e. n (omega (arith, e))))))

pub store-room : (n : ℕ) (s t : List ℕ) → let at = Layout.setting_offset Limits.passphrase_key in
    Grow n (Layout.setting_edition s at) (Layout.setting_edition t at) → Room n (settings_of s) (settings_of t)
unfolding setting_of settings_of
store-room n s t h = record {
  left_long = length-listed _ Limits.setting_count;
  right_long = length-listed _ Limits.setting_count;
  grow = rw (setting-is s Limits.passphrase_key passphrase, setting-is t Limits.passphrase_key passphrase) h;
}
