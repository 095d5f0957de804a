-- Where the sets of a key are read in order, from any moment on those put out before it are read first.
-- Assumes nothing.
use mathlib.Core.Path.{◌≡◌, refl, ap}
use mathlib.Core.List.{List, [], ◌∷◌, ◌++◌, map, map-append, append-nil}
use mathlib.Core.Logic.{inl, inr}
use Prim.Native.Nat.{ℕ}
use native.Mathlib.Omega.{arith}
use lib.ListN.{length, drop}
use lib.Seq.{drop-append_seam}
use Rattle.octets.specs.Bytes.{Each}
use Rattle.line.specs.Message.{Message}
use Rattle.line.specs.Frame.{frame}
use Rattle.line_claims.specs.Calls.{good_messages}
use Rattle.requester_claims.specs.Numbers.{Frame}
use Rattle.both_claims.specs.Ends
use Rattle.both_claims.specs.Ends.{Log, InTurn, empty, past, read, sets_among, SetsInOrder, SetsInOrderAfter, ends_after, main_logged}
use Rattle.both_claims.specs.Ends.{supervisor_logged, Always, GoesOn, sets_read_by}
use Rattle.both_claims.specs.SetThenGot.{PutOutIn, OlderFirst, OlderFirstAfter}
use Rattle.both_claims.specs.BothEnds.{InOrderOlderFirst}
use Rattle.both_claims.proofs.InOrderAge.{ReadSince, call-reads, first_read}
use Rattle.both_claims.proofs.laws.Lists.{Front, front-more, each-then, turn-images}
use Rattle.both_claims.proofs.laws.SetsAmong.{sets-append}

-- ---- lists in order

never : {A B : Type 0} {x : A} {xs : List A} → [] ≡ x ∷ xs → B
never e = let z : ◌≡◌ {A = ℕ} 0 1 = cc in absurd (omega arith)

-- the last elements
turn_last : {A : Type 0} {zs ys : List A} → InTurn A zs ys → (ps xs : List A) → zs ≡ ps ++ xs → InTurn A xs ys
turn_last empty [] xs e = rw (← e) empty
turn_last empty (p ∷ ps) xs e = never e
turn_last (past a) ps xs e = past (turn_last a ps xs e)
turn_last (read a) [] xs e = rw (← e) (read a)
turn_last (read {x = x} {xs = zs} a) (p ∷ ps) xs e = turn_last a ps xs (let z : zs ≡ ps ++ xs = cc in z)

-- messages that are frames of two lists in order: those of the first list stand first
record Parted (ms : List Message) (first more : List Frame) : Type 0 where
  older : List Message
  newer : List Message
  parts : ms ≡ older ++ newer
  older_put : Each (PutOutIn first) older
  newer_put : Each (PutOutIn more) newer

abbrev bytes_of : List Frame → List (List ℕ)
bytes_of = map (λ (x : Frame). x.bytes)

turn-parted : (first more : List Frame) {zs ys : List (List ℕ)} → InTurn (List ℕ) zs ys → (ms : List Message) → map frame ms ≡ zs
    → ys ≡ bytes_of (first ++ more) → Parted ms first more
turn-parted [] more a ms e f = record {
  older = [];
  newer = ms;
  parts = refl;
  older_put = tt;
  newer_put = turn-images frame (λ (x : Frame). x.bytes) ms more (rw (e, ← f) a);
}
turn-parted (x ∷ first) more empty ms e f = never f
turn-parted (x ∷ first) more (past {ys = ys} a) ms e f =
    let p = turn-parted first more a ms e (let z : ys ≡ bytes_of (first ++ more) = cc in z) in
    record {
      older = p.older;
      newer = p.newer;
      parts = p.parts;
      older_put = each-then (PutOutIn first) (PutOutIn (x ∷ first)) (λ m h. inr h) p.older p.older_put;
      newer_put = p.newer_put;
    }
turn-parted (x ∷ first) more (read a) [] e f = never e
turn-parted (x ∷ first) more (read {x = z} {xs = zs} a) (m ∷ ms) e f =
    let p = turn-parted (x ∷ first) more a ms (let w : map frame ms ≡ zs = cc in w) f in
    let h : x.bytes ≡ frame m = cc in
    record {
      older = m ∷ p.older;
      newer = p.newer;
      parts = ap (λ (ns : List Message). m ∷ ns) p.parts;
      older_put = (inl h, p.older_put);
      newer_put = p.newer_put;
    }

-- ---- what was put out and read since a moment

module _ (k : ℕ) (e : Ends.Ends) where
  parted-since : (l : Log) → ReadSince e l → Front e.log.asked l.asked → SetsInOrder k l → OlderFirst k e l
  parted-since l r front o =
      let new = sets_among k (good_messages r.later) in
      let heard : drop (length e.log.heard) l.heard ≡ good_messages r.later =
      rw r.heard (drop-append_seam e.log.heard (good_messages r.later)) in
      let asked : drop (length e.log.asked) l.asked ≡ front.more =
      rw (← front.whole) (drop-append_seam e.log.asked front.more) in
      let sets : map frame (sets_among k l.heard) ≡ map frame (sets_read_by k e) ++ map frame new =
      rw (r.heard, sets-append k e.log.heard (good_messages r.later)) (map-append frame (sets_read_by k e) new) in
      let p =
      turn-parted e.log.asked front.more (turn_last o (map frame (sets_read_by k e)) (map frame new) sets) new refl
      (rw front.whole) in
      record {
        older = p.older;
        newer = p.newer;
        read = rw heard p.parts;
        older_put = p.older_put;
        newer_put = rw asked p.newer_put;
      }

  call_asks : (x : Ends.Ends) (t : Ends.EndCall) → GoesOn x t → Front e.log.asked x.log.asked
      → Front e.log.asked (ends_after x t).log.asked
  unfolding ends_after main_logged supervisor_logged
  call_asks x (Ends.main m) g h = rw g (front-more _ h)
  call_asks x (Ends.supervisor m) g h = h

  parted-calls : (x : Ends.Ends) → ReadSince e x.log → Front e.log.asked x.log.asked → (us : List Ends.EndCall)
      → Always GoesOn x us → Always (SetsInOrderAfter k) x us → Always (OlderFirstAfter k e) x us
  parted-calls x r h [] g o = tt
  parted-calls x r h (t ∷ us) g o =
      let z = call-reads e x t g.0 r in
      let w = call_asks x t g.0 h in
      (parted-since (ends_after x t).log z w o.0, parted-calls (ends_after x t) z w us g.1 o.1)

pub in_order_older_first : InOrderOlderFirst
in_order_older_first k e us g o =
    parted-calls k e e (first_read e) (record { more = []; whole = append-nil e.log.asked }) us g o
