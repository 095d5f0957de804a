-- The invariant is kept as the supervisor puts a byte out, and as the tap sees it; then nothing is accused.
-- Assumes nothing.
use mathlib.Core.Path.{◌≡◌, refl, sym, ap, subst, ◌∙◌}
use mathlib.Core.Bool.{Bool, true, false, false≢true, cond, ◌||◌}
use mathlib.Core.List.{List, [], ◌∷◌, ◌++◌, append_assoc, append-nil}
use mathlib.Core.Logic.{inl, inr}
use mathlib.Core.Option.{Option, none, some}
use Prim.Native.Nat.{ℕ, zero, suc, ◌+◌, ◌-◌, ◌≤◌}
use native.Mathlib.Omega.{arith}
use lib.Dec.{ltb, eqb-suc-zero}
use lib.ListN.{length}
use Rattle.octets.specs.Bytes.{Each}
use Rattle.octets.proofs.Conditions.{cond-by}
use Rattle.line.specs.Message.{Message}
use Rattle.line.specs.Limits.{longest_form}
use Rattle.line.specs.Judge.{more_received, progress_of}
use Rattle.line.proofs.Judged.{more-tail, tail_within}
use Rattle.supervisor.specs.State.{State}
use Rattle.supervisor.specs.Local.{after_take}
use Rattle.responder.specs.Requests.{Verdict}
use Rattle.tap.specs.Capture.{Unended, nothing_come, from, answered, tick, tick_from}
use Rattle.tap.specs.Tap.{Newest, Tap, Noted, tap_heard, tap_judged, hearing}
use Rattle.tap_claims.specs.Claims.{NotAccused}
use Rattle.tap_claims.proofs.Outgoing.{Piece, Stream, Edge, edge-put}
use Rattle.tap_claims.proofs.Counted.{left-put}
use Rattle.tap_claims.proofs.Coming.{verdicts_in, asked_all, all-heard, all-unsure, OlderNumber, more-older, all-older}
use Rattle.tap_claims.proofs.Coming.{progress_after}
use Rattle.tap_claims.proofs.Hears.{OnlyCounted, Free, hear-free, hear-cut, NewestReply, Told, hear-whole}
use Rattle.tap_claims.proofs.System.{Core, core}
use Rattle.tap_claims.proofs.Reached.{without_first, put-core}
use Rattle.tap_claims.proofs.Invariant.{Settled, Parted, Inv, settled, parted, awaiting, Goes}

-- ---- a byte is put out

pub put_step : (s : State) (g : Unended) (t : Tap) (ahead behind : List ℕ) (b : ℕ) (bs : List ℕ) → s.pending ≡ b ∷ bs
    → Inv g t (core s) ahead behind → Inv g t (core (after_take s 1)) ahead (behind ++ (b ∷ []))
put_step s g t ahead behind b bs e i = rw (put-core s b bs e) (by i)
  where
    by : Inv g t (core s) ahead behind → Inv g t (without_first s b bs) ahead (behind ++ (b ∷ []))
    by (settled u f a k) = settled u f a (record {
      awake = k.awake;
      long = k.long;
      fits = k.fits;
      spoiled = k.spoiled;
      front = k.front;
      marks = k.marks;
      come_is = k.come_is;
      stream = rw (append_assoc behind (b ∷ []) bs) (rw e at k.stream);
      edge = edge-put behind b u.unsure k.spoiled k.front;
    })
    by (parted u first rest a n f d p) = parted u first rest a n f d (record {
      awake = p.awake;
      long = p.long;
      nothing = p.nothing;
      most = p.most;
      inside = p.inside;
      room = p.room;
      left = left-put behind p.most p.inside s.terminator_owed b bs (rw e at p.left);
    })
    by (awaiting most inside f n l h) =
        awaiting most inside f n l (left-put behind most inside s.terminator_owed b bs (rw e at h))

-- ---- a byte of a frame is seen

pub come-more : (d : Option (List ℕ)) (b : ℕ) → nothing_come (more_received d (suc b)) ≡ false
unfolding more_received
come-more none b = refl
come-more (some bs) b =
    cond-by (λ (o : Option (List ℕ)). nothing_come o ≡ false) (ltb (length bs) longest_form) _ _ (λ _. some-come bs) (λ _. refl)
  where
    some-come : (xs : List ℕ) → nothing_come (some (xs ++ (suc b ∷ []))) ≡ false
    some-come [] = refl
    some-come (x ∷ xs) = refl

module _ (g : Unended) (t : Tap) (x : Core) (ahead behind : List ℕ) where
  more-heard : (b : ℕ) → Inv g t x ahead (suc b ∷ behind) → Goes g t (from (suc b)) x ahead behind
  unfolding tick tick_from
  more-heard b (settled u e f k) = rw eqb-suc-zero (
    tt,
    settled u e f (record {
      awake = k.awake;
      long = k.long;
      fits = k.fits;
      spoiled = k.spoiled;
      front = k.front ++ (suc b ∷ []);
      marks = λ d. let m = k.marks d in (come-more g.from b, rw (m.0, m.1), rw (m.0, m.2));
      come_is = λ s. rw (k.come_is s) (more-tail k.front (suc b));
      stream = k.stream;
      edge = k.edge;
    }),
  )
  more-heard b (parted u first rest a n e f p) = rw eqb-suc-zero (
    tt,
    parted u first rest a n e f (record {
      awake = p.awake;
      long = p.long;
      nothing = p.nothing;
      most = p.most;
      inside = true;
      room = p.room;
      left = p.left;
    }),
  )
  more-heard b (awaiting most inside e n l h) = rw eqb-suc-zero (tt, awaiting most true e n l h)

-- ---- the 00 of one

cond-false : {A : Type 0} (a : Bool) (y z : A) → a ≡ false → cond a y z ≡ z
cond-false true y z e = absurd (false≢true (sym e))
cond-false false y z e = refl

heard-unsure : (u : Tap) → u.awaiting ≡ false → (tap_heard u).unsure ≡ u.unsure - 1
heard-unsure u e = cond-false u.awaiting u.unsure (u.unsure - 1) e

module _ (come : Option (List ℕ)) (quiet unmarked : Bool) (u : Tap) (x : Core) (behind : List ℕ)
    (k : Settled come quiet unmarked u x (0 ∷ behind)) where
  abbrev unsure-is : (tap_heard u).unsure ≡ u.unsure - 1
  unsure-is = heard-unsure u k.awake

  -- the 00 is counted
  counted-settled : Settled (some []) true true (tap_heard u) x behind
  counted-settled = record {
    awake = k.awake;
    long = k.long;
    fits = k.fits;
    spoiled = false;
    front = [];
    marks = λ e. absurd (false≢true e);
    come_is = λ _. sym (tail_within [] (omega arith));
    stream =
        subst (λ (n : ℕ). Stream (OlderNumber u) (NewestReply u x.factory x.settings x.retained) n false [] (behind ++ x.pending))
        (sym unsure-is) k.stream.1;
    edge = subst (λ (n : ℕ). Edge n false [] behind x.owes) (sym unsure-is) k.edge;
  }

  -- the newest reply is judged, and nothing is behind it
  judged-settled : (m : Message) (w : Newest) → NewestReply u x.factory x.settings x.retained m → u.newest ≡ some w
      → behind ++ x.pending ≡ [] → Settled (some []) true true (tap_judged (tap_heard u) w m []) x behind
  unfolding tap_judged
  judged-settled m w n e r = record {
    awake = k.awake;
    long = refl;
    fits = (n.1 w e).1;
    spoiled = false;
    front = [];
    marks = λ e. absurd (false≢true e);
    come_is = λ _. sym (tail_within [] (omega arith));
    stream = rw r (λ _. refl);
    edge = subst (λ (n : ℕ). Edge n false [] behind x.owes) (sym unsure-is) k.edge;
  }

counted-parted : (u : Tap) (x : Core) (behind : List ℕ) → Parted u x (0 ∷ behind) → Parted (tap_heard u) x behind
counted-parted u x behind p =
    let e = heard-unsure u p.awake in
    let l = p.left.0 in
    let r = p.room in
    let k : p.most - 1 + 1 ≤ (tap_heard u).unsure = subst (λ (n : ℕ). p.most - 1 + 1 ≤ n) (sym e) (omega arith) in
    record {
      awake = p.awake;
      long = p.long;
      nothing = p.nothing;
      most = p.most - 1;
      inside = false;
      room = k;
      left = p.left.1;
    }

module _ (g : Unended) (t : Tap) (x : Core) (ahead behind : List ℕ) where
  abbrev q : Bool
  q = nothing_come g.from || g.quiet

  abbrev m : Bool
  m = nothing_come g.from || g.unmarked

  abbrev ended : Unended
  ended = record { towards = g.towards; from = some []; quiet = true; unmarked = true }

  abbrev hear : Option (List ℕ) → Noted
  hear bs = hearing t (answered bs q m)

  -- what is heard, and what holds behind it
  abbrev Ends : Noted → Type 0
  Ends h = Each NotAccused h.listed × Inv ended h.tap x ahead behind

  module _ (u : Tap) (e : t ≡ asked_all u (verdicts_in x.received ahead)) (f : g.towards ≡ progress_after x.received ahead)
      (k : Settled g.from g.quiet g.unmarked u x (0 ∷ behind)) where
    abbrev vs : List Verdict
    vs = verdicts_in x.received ahead

    counted-ends : (h : Noted) → OnlyCounted t h → Ends h
    counted-ends h (a, b) = (
      a,
      settled (tap_heard u) (b ∙ ap tap_heard e ∙ all-heard vs u k.awake) f
          (counted-settled g.from g.quiet g.unmarked u x behind k),
    )

    free-ends : Free t q m → Ends (hear g.from)
    free-ends h = counted-ends (hear g.from) (hear-free t q m g.from h)

    abbrev N : Message → Type 0
    N = NewestReply u x.factory x.settings x.retained

    told-ends : (y : Message) → N y → behind ++ x.pending ≡ [] → vs ≡ [] → t ≡ u → (h : Noted) → Told u y h → Ends h
    told-ends y n r none-coming same h (a, inl b) = counted-ends h (a, b ∙ ap tap_heard (sym same))
    told-ends y n r none-coming same h (a, inr (w, c, b)) = (
      a,
      settled (tap_judged (tap_heard u) w y []) (rw none-coming b) f
          (judged-settled g.from g.quiet g.unmarked u x behind k y w n c r),
    )

    piece-ends : Piece (OlderNumber u) N k.front (behind ++ x.pending) → Ends (hear (progress_of k.front))
    piece-ends (inl (y, i, o, z)) =
        counted-ends (hear (progress_of k.front)) (hear-cut t q m N k.front (y, i, rw e (all-older vs u y.sequence k.long o), z))
    piece-ends (inr (y, i, n, z, r)) = by vs refl
      where
        by : (ws : List Verdict) → vs ≡ ws → Ends (hear (progress_of k.front))
        by [] c =
            let same : t ≡ u = e ∙ ap (asked_all u) c in
            told-ends y n r c same (hear (progress_of k.front))
            (subst (λ (w : Tap). Told u y (hearing w (answered (progress_of k.front) q m))) (sym same)
            (rw z (hear-whole u q m x.factory x.settings x.retained y i n)))
        by (v ∷ ws) c =
            counted-ends (hear (progress_of k.front)) (hear-cut t q m N k.front
            (y, i, rw (e, c) (more-older ws v u y.sequence k.long n.0), ([], sym z ∙ sym (append-nil k.front))))

    settled-ends : Ends (hear g.from)
    settled-ends = by u.unsure refl k.spoiled refl
      where
        by : (n : ℕ) → u.unsure ≡ n → (b : Bool) → k.spoiled ≡ b → Ends (hear g.from)
        by (suc n) c b d = free-ends (inl (λ z. let y : t.unsure ≡ u.unsure = rw e (all-unsure vs u) in omega (arith, z, y, c)))
        by zero c true d = let z = k.marks d in free-ends (inr (rw (z.0, z.1), rw (z.0, z.2)))
        by zero c false d =
            subst (λ (bs : Option (List ℕ)). Ends (hear bs)) (sym (k.come_is (c, d))) (piece-ends (k.stream.0 (c, d)))

  zero-heard : Inv g t x ahead (0 ∷ behind) → Goes g t (from 0) x ahead behind
  unfolding tick tick_from
  zero-heard (settled u e f k) = settled-ends u e f k
  zero-heard (parted u first rest a n e f p) =
      let y : t.unsure ≡ u.unsure = rw e (all-unsure (verdicts_in (some []) rest) u) in
      let r = p.room in
      let c = hear-free t q m g.from (inl (λ z. omega (arith, z, y, r))) in (
        c.0,
        parted (tap_heard u) first rest a n (c.1 ∙ ap tap_heard e ∙ all-heard (verdicts_in (some []) rest) u p.awake) f
            (counted-parted u x behind p),
      )
  zero-heard (awaiting most inside e n l h) =
      let c = hear-free t q m g.from (inl (λ z. let y : t.unsure ≡ 3 = rw e refl in omega (arith, z, y))) in
      (c.0, awaiting (most - 1) false (c.1 ∙ ap tap_heard e) n (omega arith) h.1)

  pub heard-step : (b : ℕ) → Inv g t x ahead (b ∷ behind) → Goes g t (from b) x ahead behind
  heard-step zero i = zero-heard i
  heard-step (suc b) i = more-heard g t x ahead behind b i
