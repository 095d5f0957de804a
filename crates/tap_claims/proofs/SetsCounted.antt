-- Where all sets of a settings key that is read back were seen since a start, what is known of it counts them, and keeps the last ones.
-- Assumes nothing.
use mathlib.Core.Path.{◌≡◌, refl, sym, ap, ◌∙◌}
use mathlib.Core.Bool.{Bool, true, false, cond, false≢true}
use mathlib.Core.List.{List, [], ◌∷◌}
use mathlib.Core.Option.{Option, none, some}
use Prim.Native.Nat.{ℕ, suc, ◌-◌, ◌≤◌}
use native.Mathlib.Nat.{add-zero}
use native.Mathlib.Omega.{arith}
use lib.Dec.{ltb, eqb}
use lib.ListN.{length, take, drop, get_or, set, length-set, length-replicate, get_or-replicate}
use lib.Seq.{take-take, get_or-set_same, get_or-set_other}
use borrow.Author.Tests.{eqb-true, eqb-false, ne_eqb, le-ltb, ltb-false}
use Rattle.octets.specs.Bytes.{number}
use Rattle.octets.proofs.Conditions.{cond-by, cond_both}
use Rattle.line.specs.Message.{Message}
use Rattle.supervisor.specs.Limits.{first_setting, highest_key, setting_count, passphrase_key, last_edition}
use Rattle.supervisor.specs.State.{Setting, unset}
use Rattle.responder.specs.Commands.{Command, command_number, with_number, command_of_number}
use Rattle.responder.specs.Requests.{Verdict, failure, good, wrong_value_length}
use Rattle.responder.proofs.CommandLaws.{number_is}
use Rattle.supervisor_claims.specs.LastSet.{value_for, set_by, ReadBack}
use Rattle.supervisor_claims.proofs.claims.LastSetLaws.{onto}
use Rattle.tap.specs.Known.{SetSeen, set_seen, KeyKnown, key_unset, key_unknown, most_sets, after_set_by, after_set_answer, newest_value}
use Rattle.tap.specs.Known.{Known}
use Rattle.tap.specs.Known.{key_known, with_key, known_at_start, is_taken_set, known_after_set, known_after_by, known_after, slot_of}
use Rattle.tap.specs.Accused.{result_told, value_told, first_held, key_asked}
use Rattle.tap.specs.Tap.{first_told, set_told, told_by, told}
use Rattle.tap_claims.specs.Moments.{set_behind}

-- ---- One key

-- what is known of a key that the sets xs, the newest first, leave with the setting z; behind the last edition the sets are not counted
pub record Counts (x : KeyKnown) (z : Setting) (xs : List SetSeen) : Type 0 where
  pub edition : x.edition ≡ some z.edition
  pub newest : newest_value x.sets ≡ z.value
  pub sets : length xs ≤ last_edition → x.sets ≡ take most_sets xs
  pub all : length xs ≤ last_edition → z.edition ≡ length xs

unset-counts : Counts key_unset unset []
unset-counts = record { edition = refl; newest = refl; sets = λ h. refl; all = λ h. refl }

-- a set that the table takes
set-counts : (key : ℕ) → eqb key passphrase_key ≡ false → (x : KeyKnown) (z : Setting) (xs : List SetSeen) → Counts x z xs
    → (n : ℕ) (v : List ℕ) → Counts (after_set_by key (set_seen n v) x.sets x.edition) (onto z (some v)) (set_seen n v ∷ xs)
set-counts key other x z xs c n v =
    rw (c.edition, other)
    (cond_both (λ (a : KeyKnown) (b : Setting). Counts a b (set_seen n v ∷ xs)) (eqb z.edition last_edition)
    (λ e. let f = eqb-true z.edition last_edition e in record {
      edition = refl;
      newest = c.newest;
      sets = λ h. let l : length xs ≤ last_edition = omega arith in absurd (omega (arith, c.all l));
      all = λ h. let l : length xs ≤ last_edition = omega arith in absurd (omega (arith, c.all l));
    })
    (λ e. record {
      edition = refl;
      newest = refl;
      sets = λ h.
          let l : length xs ≤ last_edition = omega arith in
          ap (λ (ys : List SetSeen). set_seen n v ∷ ys) (rw (c.sets l) (take-take 4 5 xs (omega arith)));
      all = λ h. let l : length xs ≤ last_edition = omega arith in ap suc (c.all l);
    }))

-- a set's answer
answer-counts : (result : ℕ) (x : KeyKnown) (z : Setting) (xs : List SetSeen) → Counts x z xs → Counts (after_set_answer result x) z xs
unfolding after_set_answer
answer-counts result x z xs c = by x.edition x.sets c
  where
    by : (e : Option ℕ) (ys : List SetSeen) → Counts (record { edition = e; sets = ys }) z xs
        → Counts (after_set_answer result (record { edition = e; sets = ys })) z xs
    by none ys d = absurd (let p = d.edition in let q : ◌≡◌ {A = ℕ} 0 1 = cc in omega arith)
    by (some e) ys d = record { edition = d.edition; newest = d.newest; sets = d.sets; all = d.all }

-- ---- Among all keys

pub record Knows (key : ℕ) (ks : List KeyKnown) (z : Setting) (xs : List SetSeen) : Type 0 where
  pub long : length ks ≡ setting_count
  pub counts : Counts (get_or ks (key - first_setting) key_unknown) z xs

module _ {key : ℕ} (h : ReadBack key) where
  other-than-passphrase : eqb key passphrase_key ≡ false
  other-than-passphrase = ne_eqb key passphrase_key h.other

  pub start-knows : Knows key known_at_start.keys unset []
  start-knows = record {
    long = length-replicate {A = KeyKnown} setting_count key_unset;
    counts =
        rw (get_or-replicate setting_count (key - first_setting) key_unset key_unknown (omega (arith, h.key))) unset-counts;
  }

  module _ {ks : List KeyKnown} {z : Setting} {xs : List SetSeen} (g : Knows key ks z xs) where
    -- under the key itself
    same_key : (x : KeyKnown) {y : Setting} {ys : List SetSeen} → Counts x y ys → Knows key (set ks (key - first_setting) x) y ys
    same_key x c = record {
      long = length-set ks (key - first_setting) x ∙ g.long;
      counts = rw (get_or-set_same ks (key - first_setting) x key_unknown (omega (arith, h.key, g.long))) c;
    }

    -- under another key
    other_key : (k : ℕ) (x : KeyKnown) → first_setting ≤ k → eqb k key ≡ false → Knows key (set ks (k - first_setting) x) z xs
    other_key k x low e = record {
      long = length-set ks (k - first_setting) x ∙ g.long;
      counts =
          rw (get_or-set_other ks (k - first_setting) (key - first_setting) x key_unknown (λ n.
          eqb-false k key e (omega (arith, h.key, low, n)))) g.counts;
    }

  -- ---- What a request changes

  taken-low : (k n : ℕ) → is_taken_set k n ≡ true → first_setting ≤ k
  taken-low k n =
      let P : Bool → Type 0 = λ t. t ≡ true → first_setting ≤ k in
      cond-by P (ltb highest_key k) _ _ (λ e p. absurd (false≢true p)) (λ e.
      cond-by P (ltb k first_setting) _ _ (λ f p. absurd (false≢true p)) (λ f p. ltb-false k first_setting f))

  -- a set that the table takes changes the knowledge of its key
  changed-knows : (k : Known) {z : Setting} {xs : List SetSeen} → Knows key k.keys z xs → (of n : ℕ) (x : KeyKnown)
      → (of ≡ key → Counts x z xs) → Knows key (cond (is_taken_set of n) (with_key k of x) k).keys z xs
  changed-knows k {z} {xs} g of n x c =
      cond-by (λ (y : Known). Knows key y.keys z xs) (is_taken_set of n) _ _ (λ e. by (taken-low of n e) (eqb of key) refl) (λ e. g)
    where
      by : first_setting ≤ of → (t : Bool) → eqb of key ≡ t → Knows key (set k.keys (of - first_setting) x) z xs
      by low true e = let f = eqb-true of key e in rw f (same_key g x (c f))
      by low false e = other_key g of x low e

  set-knows : (k : Known) (n : ℕ) (bs : List ℕ) {z : Setting} {xs : List SetSeen} → Knows key k.keys z xs
      → Knows key (known_after_set k n bs).keys (onto z (value_for key bs)) (set_behind n (value_for key bs) xs)
  unfolding number known_after_set value_for
  set-knows k n [] g = g
  set-knows k n (b ∷ v) {z} {xs} g = rw add-zero (by (eqb b key) refl)
    where
      after : ℕ → KeyKnown
      after of = after_set_by of (set_seen n v) (key_known k of).sets (key_known k of).edition

      stored : (wrong : Bool)
          → Knows key (cond (cond wrong false true) (with_key k key (after key)) k).keys (onto z (cond wrong none (some v)))
          (set_behind n (cond wrong none (some v)) xs)
      stored true = g
      stored false = same_key g (after key) (set-counts key other-than-passphrase (key_known k key) z xs g.counts n v)

      by : (t : Bool) → eqb b key ≡ t → let o = cond t (cond (wrong_value_length key (length v)) none (some v)) none in
          Knows key (cond (is_taken_set b (length v)) (with_key k b (after b)) k).keys (onto z o) (set_behind n o xs)
      by true e =
          rw (eqb-true b key e, le-ltb highest_key key h.key.upper, le-ltb key first_setting h.key.lower)
          (stored (wrong_value_length key (length v)))
      by false e = changed-knows k g b (length v) (after b) (λ f. absurd (eqb-false b key e f))

  module _ (k : Known) (m : Message) {z : Setting} {xs : List SetSeen} (g : Knows key k.keys z xs) where
    other-knows : (x : Command) → eqb (command_number x) 0x10 ≡ false → Knows key (known_after_by (some x) k m).keys z xs
    unfolding command_number
    other-knows Command.reboot e = g
    other-knows Command.power-off e = g
    other-knows Command.bsu e = g
    other-knows Command.identity e = g
    other-knows Command.mac e = g
    other-knows Command.boot-failure e = g
    other-knows Command.panic e = g
    other-knows Command.status e = g
    other-knows Command.start-acknowledged e = g
    other-knows Command.alert e = g
    other-knows Command.image_block e = g
    other-knows Command.key_lookup e = g
    other-knows Command.inventory e = g
    other-knows Command.key_set e = absurd (false≢true (sym e))

    -- a valid request
    pub request-knows : Knows key (known_after k (good m)).keys (onto z (set_by key m)) (set_behind m.sequence (set_by key m) xs)
    unfolding known_after set_by command_of_number with_number command_number
    request-knows = by (eqb m.command 0x10) refl
      where
        other : (o : Option Command) → command_of_number m.command ≡ o → eqb m.command 0x10 ≡ false
            → Knows key (known_after_by o k m).keys z xs
        other none e f = g
        other (some x) e f = other-knows x (rw (number_is m.command e) at f)

        by : (t : Bool) → eqb m.command 0x10 ≡ t → let o = cond t (value_for key m.payload) none in
            Knows key (known_after_by (command_of_number m.command) k m).keys (onto z o) (set_behind m.sequence o xs)
        by true e = rw (eqb-true m.command 0x10 e) (set-knows k m.sequence m.payload g)
        by false e = other (command_of_number m.command) refl e

  -- ---- What a judged reply tells

  module _ (k : Known) (m r : Message) {z : Setting} {xs : List SetSeen} (g : Knows key k.keys z xs) where
    first-knows : (o : Option (List ℕ)) (slot : Option ℕ) (bs : List ℕ) → Knows key (first_told o slot bs k).keys z xs
    first-knows none (some slot) bs = g
    first-knows none none bs = g
    first-knows (some cs) slot bs = g

    answer-knows : Knows key (set_told m r k).keys z xs
    answer-knows =
        let of = key_asked m in
        let x = after_set_answer (result_told r) (key_known k of) in
        changed-knows k g of (length (drop 1 m.payload)) x (λ e.
        rw e (answer-counts (result_told r) (key_known k key) z xs g.counts))

    command-knows : (o : Option Command) → Knows key (told_by o m r k).keys z xs
    unfolding told_by
    command-knows none = g
    command-knows (some Command.reboot) = g
    command-knows (some Command.power-off) = g
    command-knows (some Command.bsu) = first-knows (first_held k (slot_of m)) (slot_of m) r.payload
    command-knows (some Command.identity) = first-knows (first_held k (slot_of m)) (slot_of m) r.payload
    command-knows (some Command.mac) = first-knows (first_held k (slot_of m)) (slot_of m) r.payload
    command-knows (some Command.boot-failure) = g
    command-knows (some Command.panic) = g
    command-knows (some Command.status) = g
    command-knows (some Command.start-acknowledged) = g
    command-knows (some Command.alert) = g
    command-knows (some Command.image_block) = g
    command-knows (some Command.key_lookup) =
        cond-by (λ (y : Known). Knows key y.keys z xs) (eqb (result_told r) 0) _ _
        (λ e. first-knows (first_held k (slot_of m)) (slot_of m) (value_told r)) (λ e. g)
    command-knows (some Command.inventory) = first-knows (first_held k (slot_of m)) (slot_of m) r.payload
    command-knows (some Command.key_set) = answer-knows

  pub told-knows : (v : Verdict) (r : Message) (k : Known) {z : Setting} {xs : List SetSeen} → Knows key k.keys z xs
      → Knows key (told v r k).keys z xs
  told-knows (failure reason version sequence) r k g = g
  told-knows (good m) r k g = command-knows k m r g (command_of_number m.command)
