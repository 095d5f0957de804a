-- Laws of the numbers. A block that is bumped for frames one after the other holds the numbers of such frames.
-- Every frame is counted once. Assumes nothing.
use mathlib.Core.Path.{◌≡◌, refl, ◌∙◌}
use mathlib.Core.Bool.{Bool, true, false, cond, not}
use mathlib.Core.List.{List, [], ◌∷◌, ◌++◌}
use mathlib.Core.Option.{Option, none, some}
use Prim.Native.Nat.{ℕ, ◌+◌, ◌^◌, ◌≤◌, min}
use native.Mathlib.Nat.{zero-add}
use native.Mathlib.Omega.{arith}
use lib.Dec.{leb, ltb}
use lib.ListN.{length}
use borrow.Author.Tests.{ltb-true, ltb-false}
use Rattle.octets.proofs.Conditions.{cond-by}
use Rattle.line.specs.Numbers.{first_version}
use Rattle.line.specs.Message.{Message}
use Rattle.line.specs.Judge as Line
use Rattle.line.specs.Judge.{sequence_of, fields, decoded, wrong_length, wrong_checksum, wrong_magic, judge_form, judge}
use Rattle.responder.specs.Requests.{Verdict, failure, good, version_served, known, length_allowed, tested, tested_where, verdict}
use Rattle.responder.specs.Receive.{ended_by_verdict}
use Rattle.counters.specs.declared.Counters.{Counters}
use Rattle.counters.specs.Ended.{Ended}
use Rattle.counters.specs.Count.{most_counted, one_more, raised, is_good, is_empty, is_reason, cleared_counters, bumped_for}
use Rattle.counters.specs.Count.{bumped_for_all, how_many, tally_of}
use Rattle.counters_claims.specs.CountHistory.{ended_by_frame, ended_all}
use Rattle.counters_claims.specs.Item8.{nine, EachCountedOnce}

-- ---- one counter

-- raised for each such frame
unfoldable raised_all : (Ended → Bool) → ℕ → List Ended → ℕ
raised_all counts n [] = n
raised_all counts n (e ∷ es) = raised_all counts (raised (counts e) n) es

one-more-most : (n : ℕ) → n ≤ most_counted → one_more n ≤ most_counted
unfolding one_more
one-more-most n h =
    cond-by (λ x. x ≤ most_counted) (ltb n most_counted) _ _ (λ e. let l = ltb-true n most_counted e in omega arith) (λ e. h)

-- a number and so many more, or the largest
one_more_lem : (n k : ℕ) → n ≤ most_counted → min (one_more n + k) most_counted ≡ min (n + (1 + k)) most_counted
unfolding one_more
one_more_lem n k h =
    cond-by (λ x. min (x + k) most_counted ≡ min (n + (1 + k)) most_counted) (ltb n most_counted) _ _
    (λ e. omega arith) (λ e. let l = ltb-false n most_counted e in omega arith)

raised-some : (counts : Ended → Bool) (es : List Ended) (n : ℕ) → n ≤ most_counted
    → raised_all counts n es ≡ min (n + how_many counts es) most_counted
unfolding raised_all how_many
raised-some counts [] n h = omega arith
raised-some counts (e ∷ es) n h = by (counts e) (raised-some counts es (one_more n) (one-more-most n h)) (raised-some counts es n h)
  where
    by : (t : Bool) → raised_all counts (one_more n) es ≡ min (one_more n + how_many counts es) most_counted
        → raised_all counts n es ≡ min (n + how_many counts es) most_counted
        → raised_all counts (raised t n) es ≡ min (n + (cond t 1 0 + how_many counts es)) most_counted
    by true i j = i ∙ one_more_lem n (how_many counts es) h
    by false i j = rw zero-add j

-- ---- the block

bumped-each : (es : List Ended) (c : Counters) → bumped_for_all c es ≡ record {
  good = raised_all is_good c.good es;
  empty = raised_all is_empty c.empty es;
  reason1 = raised_all (is_reason 1) c.reason1 es;
  reason2 = raised_all (is_reason 2) c.reason2 es;
  reason3 = raised_all (is_reason 3) c.reason3 es;
  reason4 = raised_all (is_reason 4) c.reason4 es;
  reason5 = raised_all (is_reason 5) c.reason5 es;
  reason6 = raised_all (is_reason 6) c.reason6 es;
  reason7 = raised_all (is_reason 7) c.reason7 es;
}
unfolding bumped_for_all bumped_for raised_all
bumped-each [] c = refl
bumped-each (e ∷ es) c = bumped-each es (bumped_for c e)

-- since it was cleared
pub bumped-tally : (es : List Ended) → bumped_for_all cleared_counters es ≡ tally_of es
unfolding tally_of
bumped-tally es =
    bumped-each es cleared_counters
    ∙ rw (
      one is_good,
      one is_empty,
      one (is_reason 1),
      one (is_reason 2),
      one (is_reason 3),
      one (is_reason 4),
      one (is_reason 5),
      one (is_reason 6),
      one (is_reason 7),
    )
  where
    one : (counts : Ended → Bool) → raised_all counts 0 es ≡ min (how_many counts es) most_counted
    one counts = rw zero-add at (raised-some counts es 0 (omega arith))

-- frames, and then more
pub bumped-append : (c : Counters) (es fs : List Ended) → bumped_for_all c (es ++ fs) ≡ bumped_for_all (bumped_for_all c es) fs
unfolding bumped_for_all
bumped-append c [] fs = refl
bumped-append c (e ∷ es) fs = bumped-append (bumped_for c e) es fs

-- ---- every frame is counted once

-- how many of the nine counters an outcome bumps
abbrev bumps : Ended → ℕ
bumps e = nine (λ counts. cond (counts e) 1 0)

-- one of the table's reasons, or a request
abbrev Once : Verdict → Type 0
Once v = bumps (ended_by_verdict v) ≡ 1

tested-once : (m : Message) → Once (tested m)
unfolding tested
tested-once m =
    by (not (version_served m.version)) (leb (2 ^ 63) m.sequence) (not (known m.command))
    (not (length_allowed m.command (length m.payload)))
  where
    by : (a b c d : Bool)
        → Once (cond a (failure 5 first_version (some m.sequence)) (cond b (failure 6 m.version (some m.sequence))
        (cond c (failure 3 first_version none) (cond d (failure 7 m.version (some m.sequence)) (good m)))))
    by true b c d = refl
    by false true c d = refl
    by false false true d = refl
    by false false false true = refl
    by false false false false = refl

verdict-once : (form : List ℕ) → Once (verdict form)
unfolding verdict judge judge_form
verdict-once form = by_form (decoded form)
  where
    by : (a b c : Bool) (xs : List ℕ) → Once (tested_where (cond a (Line.failure 3 none) (cond b (Line.failure 2 (some (sequence_of xs)))
        (cond c (Line.failure 4 (some (sequence_of xs))) (Line.good (fields xs))))))
    by true b c xs = refl
    by false true c xs = refl
    by false false true xs = refl
    by false false false xs = tested-once (fields xs)

    by_form : (o : Option (List ℕ)) → Once (tested_where (judge_form o))
    by_form none = refl
    by_form (some xs) = by (wrong_length xs) (wrong_checksum xs) (wrong_magic xs) xs

frame-once : (f : List ℕ) → bumps (ended_by_frame f) ≡ 1
unfolding ended_by_frame
frame-once [] = refl
frame-once (b ∷ bs) = verdict-once (b ∷ bs)

pub each_counted_once : EachCountedOnce
unfolding ended_all how_many
each_counted_once [] = refl
each_counted_once (f ∷ fs) = let k = frame-once f in let i = each_counted_once fs in omega arith
