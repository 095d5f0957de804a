-- Laws of reading an input into a room: what was read stands at the room's start, in the input's order.
-- Assumes nothing.
use mathlib.Core.Path.{◌≡◌, refl, sym, ap, subst, ◌∙◌}
use mathlib.Core.Bool.{Bool, true, false}
use mathlib.Core.List.{List, ◌++◌, append-nil}
use Prim.Native.Nat.{ℕ, ◌+◌, ◌-◌, ◌≤◌, ◌<◌}
use native.Mathlib.Omega.{arith}
use borrow.Rule.Slice.PartMut.{put_mid}
use borrow.Author.Tests.{ltb-true, ltb-false}
use lib.Dec.{ltb}
use lib.ListN.{length, take, drop, length-take}
use lib.Seq.{take_all, take-append_seam, take-append-add, length-take-le}
use Rattle.std.proofs.lemmas.List.{take-append-le}
use Rattle.std.specs.Prelude.{None, Some, IfSome}
use Rattle.std.specs.declared.option.Option.{Option}
use Rattle.std.specs.Io.KnownBytes.{Appends, Consumes, IsAtEnd}
use Rattle.std.proofs.KnownBytes.{Consumes-trans}
use Rattle.audit.specs.Text.{longest_capture, audit}
use Rattle.audit.proofs.Lines.{audit-over}

-- the input ended behind the bytes that stand at the room's start
pub read-end : (old new : Option (List ℕ)) (n : ℕ) (room : List ℕ) → n ≤ length room → Consumes old new (take n room) → IsAtEnd new
    → IfSome old (λ xs. take n room ≡ take (length room) xs)
read-end None new n room h c e = tt
read-end (Some xs) None n room h c e = absurd c
read-end (Some xs) (Some ys) n room h c e =
    let whole : xs ≡ take n room = c ∙ ap (λ zs. take n room ++ zs) e ∙ append-nil (take n room) in
    rw whole (sym (take_all (length room) (take n room) (omega (arith, length-take n room))))

-- the room is full
pub read-full : (old new : Option (List ℕ)) (n : ℕ) (room : List ℕ) → n ≡ length room → Consumes old new (take n room)
    → IfSome old (λ xs. take n room ≡ take (length room) xs)
read-full None new n room h c = tt
read-full (Some xs) None n room h c = absurd c
read-full (Some xs) (Some ys) n room h c =
    let long : length (take n room) ≡ length room = length-take-le n room (omega arith) ∙ h in
    rw c (sym (rw long at (take-append_seam (take n room) ys)))

-- n bytes more were read, into the room behind the first
pub read-more : (a b c : Option (List ℕ)) (at n : ℕ) (room part : List ℕ) → at ≤ length room → length part ≡ length room - at
    → n ≤ length part
    → Consumes a b (take at room) → Consumes b c (take n part) → Consumes a c (take (at + n) (put_mid at (length room - at) room part))
read-more a b c at n room part h l m first second =
    let front = take at room in
    let back = part ++ drop (length room - at) (drop at room) in
    let e : take (at + n) (front ++ back) ≡ front ++ take n part =
    subst (λ k. take (k + n) (front ++ back) ≡ front ++ take n back) (length-take-le at room h) (take-append-add front back n)
    ∙ ap (λ zs. front ++ zs) (take-append-le n part _ m) in
    rw e (Consumes-trans a b c _ _ first second)

-- ---- the program's text by what is read of a capture

audit-cut-by : (w : List ℕ) (t : Bool) → ltb longest_capture (length w) ≡ t → audit (take (longest_capture + 1) w) ≡ audit w
audit-cut-by w true e =
    let h : longest_capture < length w = ltb-true _ _ e in
    audit-over (take (longest_capture + 1) w) (omega (arith, length-take (longest_capture + 1) w)) ∙ sym (audit-over w h)
audit-cut-by w false e = ap audit (take_all (longest_capture + 1) w (omega (arith, ltb-false _ _ e)))

-- one byte more than the longest capture decides
pub audit-cut : (w : List ℕ) → audit (take (longest_capture + 1) w) ≡ audit w
audit-cut w = audit-cut-by w (ltb longest_capture (length w)) refl

-- what is written where the capture is known
pub audited : (input old new : Option (List ℕ)) (n : ℕ) (lent room t : List ℕ) → length lent ≡ longest_capture + 1
    → IfSome input (λ w. take n room ≡ take (length lent) w) → t ≡ audit (take n room) → Appends old new t
    → IfSome input (λ w. Appends old new (audit w))
audited None old new n lent room t long e text put = tt
audited (Some w) old new n lent room t long e text put =
    let whole : t ≡ audit w = text ∙ ap audit (rw long at e) ∙ audit-cut w in
    rw whole at put
