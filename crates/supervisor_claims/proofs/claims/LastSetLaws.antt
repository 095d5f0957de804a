-- A settings key holds the value of its last successful set among the requests that were carried out.
-- Its edition is the number of these sets on top of the edition before. Assumes nothing.
use mathlib.Core.Path.{◌≡◌, refl, sym, ap, ◌∙◌}
use mathlib.Core.Bool.{Bool, true, false, cond, not, ◌&&◌, false≢true}
use mathlib.Core.List.{List, [], ◌∷◌, ◌++◌, append_assoc, append-nil}
use mathlib.Core.Option.{Option, none, some}
use Prim.Native.Nat.{ℕ, zero, suc, ◌+◌, ◌-◌, ◌^◌, ◌≤◌, ◌<◌}
use native.Mathlib.Nat.{add-zero}
use native.Mathlib.Omega.{arith}
use lib.Dec.{leb, ltb, eqb, eqb-suc-suc, eqb-zero-suc}
use lib.ListN.{length, take, drop, length-set, length-replicate, get_or-replicate}
use lib.Seq.{take-nil, get_or-set_same, get_or-set_other}
use borrow.Author.Tests.{leb-true, leb-false, eqb-true, eqb-false, eq-eqb, ne_eqb, le-ltb, ltb-false}
use Rattle.octets.specs.Bytes.{Byte, Each, number, number_at}
use Rattle.octets.proofs.Numbers.{number_small}
use Rattle.octets.proofs.Conditions.{cond-by, cond_both}
use Rattle.line.specs.Message.{Message}
use Rattle.line.specs.Frame.{split, non_empty, closed_behind}
use Rattle.line.proofs.Pieces.{non_empty-append, closed-join}
use Rattle.supervisor.specs.Limits
use Rattle.supervisor.specs.Limits.{SettingsKey}
use Rattle.supervisor.specs.State.{Factory, Setting, unset, Settings, Retained, State, setting, with_setting, fresh}
use Rattle.supervisor.specs.Local
use Rattle.supervisor.specs.Local.{entry_of}
use Rattle.saving.specs.Saving
use Rattle.saving.specs.Saving.{SavedEntry}
use Rattle.saving.proofs.ReadLaws.{entries-each}
use Rattle.responder.specs.Requests.{Verdict, failure, good, Carried, verdict, effect, carry_out_by, carry_out, wrong_value_length}
use Rattle.responder.specs.Requests.{store_value}
use Rattle.responder.specs.Requests.{after_verdict, sent}
use Rattle.responder.specs.Commands.{Command, command_number, with_number, command_of_number}
use Rattle.responder.specs.Requests
use Rattle.responder.proofs.CommandLaws.{number_is}
use Rattle.supervisor_claims.specs.View.{factory_of}
use Rattle.supervisor_claims.specs.LocalCalls.{Change, local_row}
use Rattle.supervisor_claims.specs.Histories
use Rattle.supervisor_claims.specs.Histories.{LocalCall, Call, Typed, refused, Made, means, done_means, meant, enough, untouched}
use Rattle.supervisor_claims.specs.Histories.{AllTyped}
use Rattle.supervisor_claims.specs.FrameHistory.{piece_read, is_accepted_start, received_since, frames_closed_by, frame_carried}
use Rattle.supervisor_claims.specs.FrameHistory.{frames_carried, carried_out, carried_call, carried_made, left_by_frames}
use Rattle.supervisor_claims.specs.LastSet.{request_ahead, requests_in, requests_of, value_for, set_by, listed_if, sets_of, successful}
use Rattle.supervisor_claims.specs.LastSet.{last_or, set_after, records_of, records_by, records_restored, Origin, since_start}
use Rattle.supervisor_claims.specs.LastSet.{since_restore}
use Rattle.supervisor_claims.specs.LastSet.{since_more, since_call, since_made, since_all}
use Rattle.supervisor_claims.specs.LastSet.{Has}
use Rattle.supervisor_claims.specs.Demand2.{SetSuccessful, SuccessfulExactly}
use Rattle.supervisor_claims.specs.Item11.{ReplacedOther}
use Rattle.supervisor_claims.proofs.calls.RowLaws.{settings_by, OfChange}
use Rattle.supervisor_claims.proofs.calls.LocalLaws.{row_laws}
use Rattle.supervisor_claims.proofs.laws.Progress.{local-settings}
use Rattle.supervisor_claims.proofs.claims.InOrder.{judged-is}

-- ---- requests one after the other

-- a setting after a set with a value, or none
abbrev pub onto : Setting → Option (List ℕ) → Setting
onto x none = x
onto x (some v) = cond (eqb x.edition Limits.last_edition) x (record { edition = suc x.edition; value = some v })

-- after requests, in order
unfoldable pub after_sets : ℕ → Setting → List Message → Setting
after_sets k x [] = x
after_sets k x (m ∷ ms) = after_sets k (onto x (set_by k m)) ms

pub after-append : (k : ℕ) (x : Setting) (ms ns : List Message) → after_sets k x (ms ++ ns) ≡ after_sets k (after_sets k x ms) ns
unfolding after_sets
after-append k x [] ns = refl
after-append k x (m ∷ ms) ns = after-append k (onto x (set_by k m)) ms ns

pub onto-low : (x : Setting) (o : Option (List ℕ)) → x.edition ≤ Limits.last_edition → (onto x o).edition ≤ Limits.last_edition
onto-low x none h = h
onto-low x (some v) h =
    cond-by (λ (y : Setting). y.edition ≤ Limits.last_edition) (eqb x.edition Limits.last_edition) _ _ (λ e. h) (λ e.
    omega (arith, eqb-false x.edition Limits.last_edition e))

pub sets-low : (k : ℕ) (x : Setting) (ms : List Message) → x.edition ≤ Limits.last_edition
    → (after_sets k x ms).edition ≤ Limits.last_edition
unfolding after_sets
sets-low k x [] h = h
sets-low k x (m ∷ ms) h = sets-low k (onto x (set_by k m)) ms (onto-low x (set_by k m) h)

-- the last edition stays, and any other counts on
at_last : (k : ℕ) (x : Setting) (ms : List Message) → x.edition ≡ Limits.last_edition → set_after k x ms ≡ x
unfolding set_after successful last_or
at_last k x ms e = let z : Limits.last_edition - x.edition ≡ 0 = omega arith in rw (z, add-zero)

module _ (k : ℕ) (x : Setting) (m : Message) (ms : List Message) where
  set-none : set_by k m ≡ none → set_after k x (m ∷ ms) ≡ set_after k x ms
  unfolding set_after successful sets_of
  set-none e = rw e

  set-some : (v : List ℕ) → set_by k m ≡ some v → x.edition < Limits.last_edition
      → set_after k x (m ∷ ms) ≡ set_after k (record { edition = suc x.edition; value = some v }) ms
  unfolding set_after successful sets_of last_or
  set-some v e low =
      let n = Limits.last_edition - suc x.edition in
      let z : Limits.last_edition - x.edition ≡ suc n = omega arith in
      let sum : (i : ℕ) → x.edition + suc i ≡ suc x.edition + i = λ i. omega arith in
      rw (e, z, sum (length (take n (sets_of k ms))))

after_none : (k : ℕ) (x : Setting) → set_after k x [] ≡ x
unfolding set_after successful sets_of last_or
after_none k x = rw (take-nil, add-zero)

pub after-sets : (k : ℕ) (x : Setting) (ms : List Message) → x.edition ≤ Limits.last_edition → after_sets k x ms ≡ set_after k x ms
unfolding after_sets
after-sets k x [] h = sym (after_none k x)
after-sets k x (m ∷ ms) h = after-sets k (onto x (set_by k m)) ms (onto-low x (set_by k m) h) ∙ by (set_by k m) refl
  where
    by : (o : Option (List ℕ)) → set_by k m ≡ o → set_after k (onto x o) ms ≡ set_after k x (m ∷ ms)
    by none e = sym (set-none k x m ms e)
    by (some v) e =
        cond-by (λ (y : Setting). set_after k y ms ≡ set_after k x (m ∷ ms)) (eqb x.edition Limits.last_edition) _ _
        (λ f. let l = eqb-true x.edition Limits.last_edition f in at_last k x ms l ∙ sym (at_last k x (m ∷ ms) l))
        (λ f. sym (set-some k x m ms v e (omega (arith, eqb-false x.edition Limits.last_edition f))))

pub request-append : (v : Verdict) (ms ns : List Message) → request_ahead v (ms ++ ns) ≡ request_ahead v ms ++ ns
request-append (failure reason version sequence) ms ns = refl
request-append (good m) ms ns = refl

pub requests-append : (fs gs : List (List ℕ)) → requests_in (fs ++ gs) ≡ requests_in fs ++ requests_in gs
unfolding requests_in
requests-append [] gs = refl
requests-append (f ∷ fs) gs = rw (requests-append fs gs) (request-append (verdict f) (requests_in fs) (requests_in gs))

-- the requests of bytes that came behind w
pub requests-behind : (w bs : List ℕ) → requests_of (w ++ bs) ≡ requests_of w ++ requests_in (frames_closed_by w bs)
unfolding requests_of frames_closed_by
requests-behind w bs =
    let fs = (split w).closed in
    rw (closed-join w bs, non_empty-append fs (closed_behind w bs), requests-append (non_empty fs) (non_empty (closed_behind w bs)))

-- ---- a request that is no key set

-- the settings are as before
record Kept (s : State) (c : Carried) : Type 0 where
  settings : c.state.settings ≡ s.settings

alert-kept : (version : ℕ) (s : State) (sequence : ℕ) (r : Option Retained) → Kept s (Requests.alert_asked version s sequence r)
unfolding Requests.alert_asked Requests.alert_taken
alert-kept version s sequence none = record { settings = refl }
alert-kept version s sequence (some r) =
    cond-by (Kept s) (eqb r.sequence sequence) _ _ (λ e. record { settings = refl }) (λ e. record { settings = refl })

module _ (image : List ℕ) (s : State) (m : Message) where
  effect-kept : (x : Command) → eqb (command_number x) 0x10 ≡ false → Kept s (effect x image s m)
  unfolding command_number effect Requests.reboot Requests.power_off Requests.boot_failure Requests.panicked Requests.start_acknowledged
  effect-kept Command.reboot n = record { settings = refl }
  effect-kept Command.power-off n = record { settings = refl }
  effect-kept Command.bsu n = record { settings = refl }
  effect-kept Command.identity n = record { settings = refl }
  effect-kept Command.mac n = record { settings = refl }
  effect-kept Command.boot-failure n = record { settings = refl }
  effect-kept Command.panic n = record { settings = refl }
  effect-kept Command.status n = record { settings = refl }
  effect-kept Command.start-acknowledged n = record { settings = refl }
  effect-kept Command.alert n = alert-kept m.version s m.sequence s.retained
  effect-kept Command.image_block n = record { settings = refl }
  effect-kept Command.key_lookup n = record { settings = refl }
  effect-kept Command.inventory n = record { settings = refl }
  effect-kept Command.key_set n = absurd (false≢true (sym n))

  other-kept : eqb m.command 0x10 ≡ false → Kept s (carry_out image s m)
  unfolding carry_out
  other-kept n = by (command_of_number m.command) refl
    where
      by : (o : Option Command) → command_of_number m.command ≡ o → Kept s (carry_out_by o image s m)
      by none e = record { settings = refl }
      by (some x) e = effect-kept x (rw (number_is m.command e) at n)

  -- a key set stores
  set-stored : eqb m.command 0x10 ≡ true
      → (carry_out image s m).state.settings ≡ (store_value s.settings (number_at 1 m.payload 0) (drop 1 m.payload)).settings
  unfolding carry_out command_of_number with_number command_number effect Requests.key_set
  set-stored e = rw (eqb-true m.command 0x10 e)

-- ---- what a set stores

pub entry-held : (s : State) {k : ℕ} → SettingsKey k → entry_of s k ≡ setting s.settings k
unfolding entry_of
entry-held s {k} h =
    rw (ne_eqb k 0 (λ e. omega (arith, h, e)), ne_eqb k 1 (λ e. omega (arith, h, e)), ne_eqb k 2 (λ e. omega (arith, h, e)))

pub set_successful : SetSuccessful
unfolding store_value
set_successful z v k h x g =
    rw (le-ltb Limits.highest_key k h.upper, le-ltb k Limits.first_setting h.lower, g.held)
    (by (wrong_value_length k (length v)) (eqb x.edition Limits.last_edition) z _)
  where
    by : (t u : Bool) (a b : Settings)
        → eqb (cond {A = Requests.Stored} t (record { result = 3; settings = a })
        (cond u (record { result = 4; settings = a }) (record { result = 0; settings = b }))).result
        0
        ≡ (not t && not u)
    by true u a b = refl
    by false true a b = refl
    by false false a b = refl

module _ (z : Settings) (v : List ℕ) {k : ℕ} (h : SettingsKey k) (x : Setting) (g : Has z k x) where
  -- under the key itself
  same_key : Has (store_value z k v).settings k (onto x (cond (wrong_value_length k (length v)) none (some v)))
  unfolding store_value
  same_key =
      let i = k - Limits.first_setting in
      rw (le-ltb Limits.highest_key k h.upper, le-ltb k Limits.first_setting h.lower, g.held)
      (cond_both (λ (y : Requests.Stored) o. Has y.settings k (onto x o)) (wrong_value_length k (length v)) (λ e. g) (λ e.
      cond_both (λ (y : Requests.Stored) u. Has y.settings k u) (eqb x.edition Limits.last_edition) (λ f. g) (λ f.
      record {
        long = length-set z i (record { edition = suc x.edition; value = some v }) ∙ g.long;
        held = get_or-set_same z i (record { edition = suc x.edition; value = some v }) unset (omega (arith, h, g.long));
      })))

  -- under another key
  other_key : (key : ℕ) → eqb key k ≡ false → Has (store_value z key v).settings k x
  unfolding store_value
  other_key key e =
      let P : Requests.Stored → Type 0 = λ y. Has y.settings k x in
      let u : Setting = record { edition = suc (setting z key).edition; value = some v } in
      cond-by P (ltb Limits.highest_key key) _ _ (λ f. g) (λ f.
      cond-by P (ltb key Limits.first_setting) _ _ (λ i. g) (λ i.
      cond-by P (wrong_value_length key (length v)) _ _ (λ j. g) (λ j.
      cond-by P (eqb (setting z key).edition Limits.last_edition) _ _ (λ l. g) (λ l.
      record {
        long = length-set z (key - Limits.first_setting) u ∙ g.long;
        held =
            get_or-set_other z (key - Limits.first_setting) (k - Limits.first_setting) u unset (λ n.
            eqb-false key k e (omega (arith, h, ltb-false key Limits.first_setting i, n)))
            ∙ g.held;
      }))))

  stored-has : (key : ℕ) → Has (store_value z key v).settings k (onto x (value_for k (key ∷ v)))
  unfolding value_for
  stored-has key = by (eqb key k) refl
    where
      by : (t : Bool) → eqb key k ≡ t → Has (store_value z key v).settings k (onto x (value_for k (key ∷ v)))
      by true e = rw (e, eqb-true key k e) same_key
      by false e = rw e (other_key key e)

-- a key set's data
data-has : (z : Settings) (bs : List ℕ) {k : ℕ} → SettingsKey k → (x : Setting) → Has z k x
    → Has (store_value z (number_at 1 bs 0) (drop 1 bs)).settings k (onto x (value_for k bs))
unfolding number store_value value_for
data-has z [] h x g = g
data-has z (key ∷ v) h x g = rw add-zero (stored-has z v h x g key)

-- ---- which sets are successful

pub sets-append : (k : ℕ) (ms ns : List Message) → sets_of k (ms ++ ns) ≡ sets_of k ms ++ sets_of k ns
unfolding sets_of
sets-append k [] ns = refl
sets-append k (m ∷ ms) ns = rw (sets-append k ms ns, append_assoc)

-- values with one more behind them, or none: as many as the edition leaves room for
take-one : (n : ℕ) (vs : List (List ℕ)) (v : List ℕ) (t : Bool) → eqb (length (take n vs)) n ≡ t
    → take n (vs ++ (v ∷ [])) ≡ take n vs ++ cond t [] (v ∷ [])
take-one zero vs v t e = rw (← e)
take-one (suc n) [] v t e = rw (← e, eqb-zero-suc) (ap (λ (l : List (List ℕ)). v ∷ l) (take-nil n))
take-one (suc n) (w ∷ vs) v t e = ap (λ (l : List (List ℕ)). w ∷ l) (take-one n vs v t (sym (eqb-suc-suc (length (take n vs)) n) ∙ e))

counted-one : (n : ℕ) (vs : List (List ℕ)) (v : List ℕ) (t : Bool)
    → take n (vs ++ listed_if (cond t none (some v))) ≡ take n vs ++ cond (not t && not (eqb (length (take n vs)) n)) (v ∷ []) []
counted-one n vs v true = rw (append-nil, append-nil)
counted-one n vs v false = by (eqb (length (take n vs)) n) refl
  where
    by : (u : Bool) → eqb (length (take n vs)) n ≡ u
        → take n (vs ++ (v ∷ [])) ≡ take n vs ++ cond (not (eqb (length (take n vs)) n)) (v ∷ []) []
    by true e = rw e (take-one n vs v true e)
    by false e = rw e (take-one n vs v false e)

counted-by : (n : ℕ) (vs : List (List ℕ)) (v : List ℕ) (t : Bool) {all : List (List ℕ)} {r : Bool}
    → all ≡ vs ++ listed_if (cond t none (some v))
    → r ≡ (not t && not (eqb (length (take n vs)) n)) → take n all ≡ take n vs ++ cond r (v ∷ []) []
counted-by n vs v t e f = rw (e, f) (counted-one n vs v t)

-- n sets on top of an edition come to the last one
last_more : (edition n : ℕ) → edition ≤ Limits.last_edition → eqb (edition + n) Limits.last_edition ≡ eqb n (Limits.last_edition - edition)
last_more edition n h = by (eqb n (Limits.last_edition - edition)) refl
  where
    by : (t : Bool) → eqb n (Limits.last_edition - edition) ≡ t → eqb (edition + n) Limits.last_edition ≡ t
    by true g = let e = eqb-true n (Limits.last_edition - edition) g in eq-eqb (edition + n) Limits.last_edition (omega arith)
    by false g = ne_eqb (edition + n) Limits.last_edition (λ e. eqb-false n (Limits.last_edition - edition) g (omega arith))

set-listed : (k : ℕ) (m : Message) (v : List ℕ) → m.command ≡ 0x10 → m.payload ≡ k ∷ v
    → sets_of k (m ∷ []) ≡ listed_if (cond (wrong_value_length k (length v)) none (some v))
unfolding sets_of set_by value_for
set-listed k m v c d = rw (c, d, eq-eqb k k refl, append-nil)

pub successful_exactly : SuccessfulExactly
unfolding set_after successful
successful_exactly k h x low ms z g m v c d =
    let n = Limits.last_edition - x.edition in
    counted-by n (sets_of k ms) v (wrong_value_length k (length v))
    (sets-append k ms (m ∷ []) ∙ ap (λ (l : List (List ℕ)). sets_of k ms ++ l) (set-listed k m v c d))
    (rw (last_more x.edition (length (take n (sets_of k ms))) low) at (set_successful z v k h (set_after k x ms) g))

-- ---- requests and frames

module _ (image : List ℕ) {k : ℕ} (h : SettingsKey k) where
  request-has : (s : State) (m : Message) (x : Setting) → Has s.settings k x
      → Has (carry_out image s m).state.settings k (onto x (set_by k m))
  unfolding set_by
  request-has s m x g = by (eqb m.command 0x10) refl
    where
      by : (t : Bool) → eqb m.command 0x10 ≡ t → Has (carry_out image s m).state.settings k (onto x (set_by k m))
      by true e = rw (e, set-stored image s m e) (data-has s.settings m.payload h x g)
      by false e = rw (e, (other-kept image s m e).settings) g

  pub judged-has : (s : State) (v : Verdict) (x : Setting) → Has s.settings k x
      → Has (after_verdict image s v).settings k (after_sets k x (request_ahead v []))
  unfolding after_verdict sent after_sets
  judged-has s (failure reason version sequence) x g = g
  judged-has s (good m) x g = request-has s m x g

  pub frames-have : (fs : List (List ℕ)) (s : State) (x : Setting) → Has s.settings k x → let gs = non_empty fs in
      Has (frames_carried image s gs).settings k (after_sets k x (requests_in gs))
  unfolding non_empty frames_carried frame_carried requests_in after_sets
  frames-have [] s x g = g
  frames-have ([] ∷ fs) s x g = frames-have fs s x g
  frames-have ((b ∷ bs) ∷ fs) s x g =
      let v = verdict (b ∷ bs) in
      let r = requests_in (non_empty fs) in
      rw (request-append v [] r, after-append k x (request_ahead v []) r)
      (frames-have fs (after_verdict image s v) (after_sets k x (request_ahead v [])) (judged-has s v x g))

-- ---- received bytes and calls

-- whether a terminator is owed is as before
pub frames-owed : (image : List ℕ) (fs : List (List ℕ)) (s : State) → (frames_carried image s fs).terminator_owed ≡ s.terminator_owed
unfolding frames_carried frame_carried
frames-owed image [] s = refl
frames-owed image ([] ∷ fs) s = frames-owed image fs s
frames-owed image ((b ∷ bs) ∷ fs) s =
    let v = verdict (b ∷ bs) in
    frames-owed image fs (after_verdict image s v) ∙ ap (λ (x : State). x.terminator_owed) (judged-is image s v)

-- key k has what its sets come to since the last accepted start or a later restore
abbrev pub Holds : ℕ → Origin → State → Type 0
Holds k x s = Has s.settings k (after_sets k x.setting x.requests)

pub replaced_other : ReplacedOther
unfolding Saving.replaced
replaced_other es zero z k h l = refl
replaced_other es (suc n) z k h l =
    get_or-set_other (Saving.replaced n es z) (Limits.first_setting + n - Limits.first_setting) (k - Limits.first_setting)
    (Saving.setting_in (Limits.first_setting + n) es) unset
    (λ e. omega (arith, h, e)) ∙ replaced_other es n z k h (omega arith)

-- the settings after a restore
module _ (es : List SavedEntry) where
  pub replaced-long : (n : ℕ) (z : Settings) → length (Saving.replaced n es z) ≡ length z
  unfolding Saving.replaced
  replaced-long zero z = refl
  replaced-long (suc n) z =
      length-set (Saving.replaced n es z) (Limits.first_setting + n - Limits.first_setting)
      (Saving.setting_in (Limits.first_setting + n) es)
      ∙ replaced-long n z

  replaced-here : (n : ℕ) (z : Settings) {k : ℕ} → SettingsKey k → k < Limits.first_setting + n → length z ≡ Limits.setting_count
      → setting (Saving.replaced n es z) k ≡ Saving.setting_in k es
  unfolding Saving.replaced
  replaced-here zero z h l long = absurd (omega (arith, h, l))
  replaced-here (suc n) z {k} h l long = by (eqb k (Limits.first_setting + n)) refl (replaced-here n z {k = k} h)
    where
      x : Setting
      x = Saving.setting_in (Limits.first_setting + n) es

      by : (t : Bool) → eqb k (Limits.first_setting + n) ≡ t
          → (k < Limits.first_setting + n → length z ≡ Limits.setting_count → setting (Saving.replaced n es z) k ≡ Saving.setting_in k es)
          → setting (with_setting (Saving.replaced n es z) (Limits.first_setting + n) x) k ≡ Saving.setting_in k es
      by true e rest =
          let f = eqb-true k (Limits.first_setting + n) e in
          rw f (get_or-set_same (Saving.replaced n es z) (Limits.first_setting + n - Limits.first_setting) x unset
          (omega (arith, h, f, replaced-long n z, long)))
      by false e rest =
          let f = eqb-false k (Limits.first_setting + n) e in
          get_or-set_other (Saving.replaced n es z) (Limits.first_setting + n - Limits.first_setting) (k - Limits.first_setting) x unset
          (λ g. f (omega (arith, h, g)))
          ∙ rest (omega (arith, l, f)) long

-- a restore of key k
restore-holds : {k : ℕ} → SettingsKey k → (x : Origin) (s : State) → Holds k x s → (o : Option (List SavedEntry)) (t : State)
    → t.settings ≡ settings_by o s.settings → Holds k (since_restore k x o) t
unfolding after_sets
restore-holds h x s g none t e = rw e g
restore-holds {k} h x s g (some es) t e =
    rw e
    (cond-by (λ (y : Origin). Has (Saving.restored_settings es s.settings) k (after_sets k y.setting y.requests))
    (leb k Saving.highest_saved) _ _
    (λ f. record { long = replaced-long es Saving.saved_count s.settings ∙ g.long; held = here f })
    (λ f. record {
      long = replaced-long es Saving.saved_count s.settings ∙ g.long;
      held = replaced_other es Saving.saved_count s.settings k h (omega (arith, leb-false k Saving.highest_saved f)) ∙ g.held;
    }))
  where
    here : leb k Saving.highest_saved ≡ true → setting (Saving.restored_settings es s.settings) k ≡ after_sets k (Saving.setting_in k es) []
    here f = replaced-here es Saving.saved_count s.settings h (omega (arith, leb-true k Saving.highest_saved f)) g.long

module _ {k : ℕ} (h : SettingsKey k) where
  -- none was set yet
  pub fresh_holds : (f : Factory) → Holds k since_start (fresh f)
  unfolding fresh after_sets
  fresh_holds f = record {
    long = length-replicate {A = Setting} Limits.setting_count unset;
    held = get_or-replicate Limits.setting_count (k - Limits.first_setting) unset unset (omega (arith, h));
  }

  -- the frames that bytes close behind w
  pub frames-hold : (w : List ℕ) (x : Origin) (s : State) → Holds k x s → (image bs : List ℕ)
      → Holds k (since_more x (requests_in (frames_closed_by w bs))) (frames_carried image s (frames_closed_by w bs))
  unfolding frames_closed_by
  frames-hold w x s g image bs =
      rw (after-append k x.setting x.requests (requests_in (non_empty (closed_behind w bs))))
      (frames-have image h (closed_behind w bs) s _ g)

  -- the same with the receive progress behind them
  bytes-hold : (w : List ℕ) (x : Origin) (s : State) → Holds k x s → (image bs : List ℕ)
      → Holds k (since_more x (requests_in (frames_closed_by w bs))) (carried_out image w s bs)
  unfolding carried_out
  bytes-hold w x s g image bs = frames-hold w x s g image bs

  call-holds : (w : List ℕ) (x : Origin) (s : State) → Holds k x s → (c : Call) → Holds k (since_call k w x c) (carried_call w s c).state
  unfolding since_call carried_call is_accepted_start meant Local.start
  call-holds w x s g (Histories.start d) = by (Local.bad_start (factory_of d))
    where
      by : (bad : Bool)
          → Holds k (cond (not bad) since_start x) (done_means s (cond bad (Local.refused 11) (Local.left (fresh (factory_of d))))).state
      by true = g
      by false = fresh_holds (factory_of d)
  call-holds w x s g (Histories.receive image piece) = bytes-hold w x s g image piece
  call-holds w x s g (Histories.step image piece) = bytes-hold w x s g image (piece_read (Histories.step image piece))
  call-holds w x s g (Histories.local c) =
      restore-holds h x s g (records_restored c) (meant s (Histories.local c)).state (local-settings s c)

  pub made_holds : (w : List ℕ) (x : Origin) (s : State) → Holds k x s → (m : Made)
      → Holds k (since_made k w x m) (carried_made w s m).state
  unfolding since_made carried_made
  made_holds w x s g m = by (enough m.call m.lent)
    where
      by : (t : Bool)
          → Holds k (cond t (since_call k w x m.call) x)
          (cond t (carried_call w s m.call) (means (refused 12) (untouched m.call) s)).state
      by true = call-holds w x s g m.call
      by false = g

  pub calls-hold : (ms : List Made) (w : List ℕ) (x : Origin) (s : State) → Holds k x s
      → Holds k (since_all k w x ms) (left_by_frames w s ms)
  unfolding since_all left_by_frames
  calls-hold [] w x s g = g
  calls-hold (m ∷ ms) w x s g = calls-hold ms (received_since w m) (since_made k w x m) (carried_made w s m).state (made_holds w x s g m)

-- ---- what holds of the setting that the sets are counted from

-- of an unset one, and of those that an image restores
module _ (k : ℕ) (P : Setting → Type 0) (at_start : P unset)
    (at_restore : (image : List ℕ) → Each Byte image → (es : List SavedEntry) → Saving.read_image image ≡ Saving.good es
    → P (Saving.setting_in k es)) where
  read_keeps : (x : Origin) → P x.setting → (image : List ℕ) → Each Byte image → (r : Saving.ImageRead) → Saving.read_image image ≡ r
      → P (since_restore k x (records_of r)).setting
  read_keeps x h image b (Saving.fault n at) e = h
  read_keeps x h image b (Saving.good es) e =
      cond-by (λ (y : Origin). P y.setting) (leb k Saving.highest_saved) _ _ (λ _. at_restore image b es e) (λ _. h)

  local_keeps : (x : Origin) → P x.setting → (c : LocalCall) → Typed (Histories.local c)
      → P (since_restore k x (records_restored c)).setting
  unfolding records_restored
  local_keeps x h c t = by (local_row c).change (row_laws c).of_change
    where
      by : (y : Change) → OfChange c y → P (since_restore k x (records_by y)).setting
      by Change.nothing o = h
      by Change.outbox o = h
      by (Change.registers added) o = h
      by (Change.settings image) o = read_keeps x h image (o.1 t) (Saving.read_image image) refl

  call-keeps : (w : List ℕ) (x : Origin) → P x.setting → (c : Call) → Typed c → P (since_call k w x c).setting
  unfolding since_call
  call-keeps w x h (Histories.start d) t =
      cond-by (λ (y : Origin). P y.setting) (is_accepted_start (Histories.start d)) _ _ (λ _. at_start) (λ _. h)
  call-keeps w x h (Histories.receive image piece) t = h
  call-keeps w x h (Histories.step image piece) t = h
  call-keeps w x h (Histories.local c) t = local_keeps x h c t

  pub since-keeps : (ms : List Made) → AllTyped ms → (w : List ℕ) (x : Origin) → P x.setting → P (since_all k w x ms).setting
  unfolding since_all since_made
  since-keeps [] t w x h = h
  since-keeps (m ∷ ms) t w x h =
      since-keeps ms t.1 (received_since w m) (since_made k w x m)
      (cond-by (λ (y : Origin). P y.setting) (enough m.call m.lent) _ _ (λ _. call-keeps w x h m.call t.0) (λ _. h))

-- an edition of 32 bits
pub in-low : (k : ℕ) (es : List SavedEntry) → Each (λ (e : SavedEntry). e.edition < 256 ^ 4) es
    → (Saving.setting_in k es).edition ≤ Limits.last_edition
unfolding Saving.setting_in
in-low k [] h = omega arith
in-low k (e ∷ es) h =
    cond-by (λ (x : Setting). x.edition ≤ Limits.last_edition) (eqb e.key k) _ _ (λ _. omega (arith, h.0)) (λ _. in-low k es h.1)

pub read_low : (image : List ℕ) → Each Byte image → (es : List SavedEntry) → Saving.read_image image ≡ Saving.good es
    → Each (λ (e : SavedEntry). e.edition < 256 ^ 4) es
read_low image b es e = rw e at (entries-each image (λ e. e.edition < 256 ^ 4) (λ before at key there p. number_small 4 (at + 3) image b))

pub since-low : (k : ℕ) (ms : List Made) → AllTyped ms → (since_all k [] since_start ms).setting.edition ≤ Limits.last_edition
since-low k ms t =
    since-keeps k (λ x. x.edition ≤ Limits.last_edition) (omega arith) (λ image b es e. in-low k es (read_low image b es e)) ms t []
    since_start (omega arith)
