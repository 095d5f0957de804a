-- A set of a key is answered with result 0. The key has its value then, and keeps it through sets to the same value.
-- Where nothing older is read behind it, the sets behind it are such. Assumes nothing.
use mathlib.Core.Path.{◌≡◌, refl, sym, ap, ◌∙◌}
use mathlib.Core.Bool.{Bool, true, false, not, ◌&&◌, false≢true}
use mathlib.Core.List.{List, [], ◌∷◌, ◌++◌}
use mathlib.Core.Option.{Option, none, some}
use Prim.Native.Nat.{ℕ, ◌+◌, ◌*◌, ◌%◌}
use native.Mathlib.Omega.{arith}
use lib.Dec.{eqb}
use lib.ListN.{length}
use borrow.Author.Tests.{eq-eqb}
use Rattle.octets.specs.Bytes.{Each, number, bytes}
use Rattle.octets.proofs.Conditions.{cond-by}
use Rattle.line.specs.Message.{Message, InRange}
use Rattle.line.specs.Frame.{frame}
use Rattle.line.specs.Judge as Line
use Rattle.line.specs.Judge.{judge}
use Rattle.line_claims.specs.Calls.{gathered, good_of, good_messages}
use Rattle.line_claims.proofs.ReaderClaim.{gathered-append}
use Rattle.requester_claims.specs.Numbers.{Frame}
use Rattle.supervisor.specs.Limits.{SettingsKey, last_edition}
use Rattle.supervisor.specs.State.{Setting, State}
use Rattle.responder.specs.Commands.{command_number, with_number, command_of_number}
use Rattle.responder.specs.Requests.{ReplyContent, carry_out, effect, key_set, reply_of, store_value, wrong_value_length}
use Rattle.supervisor_claims.specs.LastSet.{set_by, value_for, Has}
use Rattle.supervisor_claims.proofs.claims.LastSetLaws.{onto, after_sets, set_successful}
use Rattle.both_claims.specs.Ends.{is_set_of, sets_among, as_message, reply_message, reply_to_request}
use Rattle.both_claims.specs.Exchanges.{set_request}
use Rattle.both_claims.specs.SetThenGot.{PutOutIn}
use Rattle.both_claims.proofs.laws.Lists.{any-so, each_right, each-then, each_and, each-any}
use Rattle.both_claims.proofs.laws.SetsAmong.{sets-append}
use Rattle.both_claims.proofs.laws.SameSet.{SetsTo, FrameTo}

-- ---- lists

module _ {A : Type 0} where
  -- behind an element that is not among the first
  behind-it : (P : A → Type 0) (x : A) (ps xs os ns : List A) → ps ++ (x ∷ xs) ≡ os ++ ns → Each (λ (o : A). o ≡ x → ⊥) os → Each P ns
      → Each P xs
  behind-it P x ps xs [] ns e h n = (each_right P ps (x ∷ xs) (rw e n)).1
  behind-it P x [] xs (o ∷ os) ns e h n = absurd (h.0 (let z : x ≡ o = cc in sym z))
  behind-it P x (p ∷ ps) xs (o ∷ os) ns e h n = behind-it P x ps xs os ns (let z : ps ++ (x ∷ xs) ≡ os ++ ns = cc in z) h.1 n

-- ---- the value

module _ (k : ℕ) (v : List ℕ) where
  onto-keeps : (x : Setting) → x.value ≡ some v → (o : Option (List ℕ)) → ((u : List ℕ) → o ≡ some u → u ≡ v) → (onto x o).value ≡ some v
  onto-keeps x h none f = h
  onto-keeps x h (some u) f =
      cond-by (λ (y : Setting). y.value ≡ some v) (eqb x.edition last_edition) _ _ (λ _. h) (λ _. ap some (f u refl))

  pub after-keeps : (x : Setting) → x.value ≡ some v → (ms : List Message) → Each (SetsTo k v) ms → (after_sets k x ms).value ≡ some v
  unfolding after_sets
  after-keeps x h [] s = h
  after-keeps x h (m ∷ ms) s = after-keeps (onto x (set_by k m)) (onto-keeps x h (set_by k m) s.0) ms s.1

-- a set carried out
carried-set : (image : List ℕ) (x : State) (n : ℕ) {k : ℕ} → SettingsKey k → (v : List ℕ)
    → (carry_out image x (as_message n (set_request k v))).reply
    ≡ some (record { version = 1; command = 0x0c; payload = (store_value x.settings k v).result ∷ [] })
unfolding carry_out command_of_number with_number command_number effect key_set number bytes
carried-set image x n {k} s v = let l = s.upper in let e : k % 256 + 0 * 256 ≡ k = omega arith in rw e

result-of : (n : ℕ) (o : Option ReplyContent) (j : ℕ) (r : Message) → o ≡ some (record { version = 1; command = 0x0c; payload = j ∷ [] })
    → reply_message (reply_of n o) ≡ some r → r.payload ≡ j ∷ []
unfolding reply_of
result-of n o j r e f = let g = rw e at f in cc

module _ (image : List ℕ) (x : State) (n : ℕ) {k : ℕ} (key : SettingsKey k) (v : List ℕ) (y : Setting) (has : Has x.settings k y)
    (r : Message) (reply : reply_to_request image x (as_message n (set_request k v)) ≡ some r) (zero : r.payload ≡ 0 ∷ []) where
  -- each test passed
  passed : (wrong_value_length k (length v) ≡ false) × (eqb y.edition last_edition ≡ false)
  passed =
      by (wrong_value_length k (length v)) (eqb y.edition last_edition)
      (sym (set_successful x.settings v k key y has) ∙ eq-eqb _ 0 result)
    where
      result : (store_value x.settings k v).result ≡ 0
      result = let e = sym (result-of n _ _ r (carried-set image x n key v) reply) ∙ zero in cc

      by : (a b : Bool) → (not a && not b) ≡ true → (a ≡ false) × (b ≡ false)
      by true b e = absurd (false≢true e)
      by false true e = absurd (false≢true e)
      by false false e = (refl, refl)

  pub zero-set : set_by k (as_message n (set_request k v)) ≡ some v
  unfolding set_by value_for bytes
  zero-set = let l = key.upper in let e : k % 256 ≡ k = omega arith in rw (e, eq-eqb k k refl, passed.0)

  pub zero-value : (onto y (some v)).value ≡ some v
  zero-value = rw passed.1

-- ---- the sets read behind one

module _ (k : ℕ) (m : Message) (set : is_set_of k m ≡ true) (ps rest : List (List ℕ)) (f : List ℕ) (judged : judge f ≡ Line.good m) where
  abbrev earlier : List Message
  earlier = sets_among k (good_messages ps)

  abbrev read_behind : List Message
  read_behind = sets_among k (good_messages rest)

  sets-split : sets_among k (good_messages (ps ++ (f ∷ rest))) ≡ earlier ++ (m ∷ read_behind)
  unfolding gathered sets_among
  sets-split = rw (gathered-append good_of ps (f ∷ rest), judged, sets-append k (good_messages ps) (m ∷ good_messages rest), set)

  -- m was not among the first frames put out, and the others set to v: so do the sets behind m
  pub sets_behind : (v : List ℕ) (first more : List Frame) → Each (λ (x : Frame). x.bytes ≡ frame m → ⊥) first → Each (FrameTo k v) more
      → (older newer : List Message)
      → let ss = sets_among k (good_messages (ps ++ (f ∷ rest))) in
      Each InRange ss → ss ≡ older ++ newer → Each (PutOutIn first) older → Each (PutOutIn more) newer → Each (SetsTo k v) read_behind
  sets_behind v first more new to older newer range parts old put =
      let e : earlier ++ (m ∷ read_behind) ≡ older ++ newer = sym sets-split ∙ parts in
      behind-it (SetsTo k v) m earlier read_behind older newer e (each-then (PutOutIn first) _ not_first older old)
      (each_and InRange (PutOutIn more) (SetsTo k v) sets newer (each_right InRange older newer (rw parts at range)) put)
    where
      not_first : (y : Message) → PutOutIn first y → y ≡ m → ⊥
      not_first y a e =
          any-so (λ (x : Frame). ⊥) (λ x z. z) first
          (each-any (λ (x : Frame). x.bytes ≡ frame m → ⊥) _ (λ (x : Frame). ⊥) (λ x n b. n (b ∙ ap frame e)) first new a)

      sets : (y : Message) → InRange y → PutOutIn more y → SetsTo k v y
      sets y r a =
          any-so _ (λ x z. z) more
          (each-any (FrameTo k v) (λ (x : Frame). x.bytes ≡ frame y) (λ (x : Frame). SetsTo k v y) (λ x h e. h y r e) more to a)
