-- Every stream, in every cut, is what some calls of a fresh line reader read.
-- Assumes nothing.
use mathlib.Core.Path.{◌≡◌, refl, sym, ap, ◌∙◌}
use mathlib.Core.Bool.{Bool, true, false}
use mathlib.Core.List.{List, [], ◌∷◌, ◌++◌, append_assoc, append-nil}
use Prim.Native.Nat.{ℕ, zero, suc, ◌≤◌}
use lib.Dec.{eqb-suc-zero}
use lib.ListN.{length, take}
use Rattle.line.specs.Reader.{reader_length, valid_reader, pushed, one_byte_later, read_piece, read_promise}
use Rattle.line_claims.specs.Loans.{Loan, enough_part}
use Rattle.line_claims.specs.Calls.{LineRead, LineCall, read, lent_state, Reader, after_line_call, after_line_calls, reader_on}
use Rattle.line_claims.specs.Calls.{fresh_reader}
use Rattle.line_claims.proofs.Streams.{bytes_read, stream-read, call-stream}
use Rattle.line_claims.proofs.Refusals.{never_12, refused_exactly}
use Rattle.plain_claims.specs.Agreement.{joined_pieces, behind_each, calls_for}
use Rattle.plain_claims.specs.Item13.{CutReads}

-- up to and with the first 00, and behind it
unfoldable up_to : List ℕ → List ℕ
up_to [] = []
up_to (zero ∷ bs) = 0 ∷ []
up_to (suc b ∷ bs) = suc b ∷ up_to bs

unfoldable behind : List ℕ → List ℕ
behind [] = []
behind (zero ∷ bs) = bs
behind (suc b ∷ bs) = behind bs

both : (p : List ℕ) → up_to p ++ behind p ≡ p
unfolding up_to behind
both [] = refl
both (zero ∷ bs) = refl
both (suc b ∷ bs) = rw (both bs)

piece-up_to : (s p : List ℕ) → take (read_piece s p).used p ≡ up_to p
unfolding read_piece one_byte_later up_to
piece-up_to s [] = refl
piece-up_to s (zero ∷ bs) = refl
piece-up_to s (suc b ∷ bs) = rw eqb-suc-zero (ap (λ (l : List ℕ). suc b ∷ l) (piece-up_to (pushed s (suc b)) bs))

all_append : (r : Reader) (cs ds : List LineCall) → after_line_calls r (cs ++ ds) ≡ after_line_calls (after_line_calls r cs) ds
unfolding after_line_calls
all_append r [] ds = refl
all_append r (c ∷ cs) ds = all_append (after_line_call r c) cs ds

untrue : (t : Bool) → (t ≡ false → ⊥) → t ≡ true
untrue true f = refl
untrue false f = absurd (f refl)

module _ (room : List ℕ) (enough : reader_length ≤ length room) (l : Loan) (whole : enough_part reader_length l ≡ true) where
  -- the bytes read after some calls
  abbrev bytes_after : List LineCall → List ℕ
  bytes_after cs = (after_line_calls (fresh_reader room) cs).bytes

  abbrev given : List ℕ → LineCall
  given p = read (record { lent = l; piece = p })

  one_call : (cs : List LineCall) (p : List ℕ) → bytes_after (cs ++ given p ∷ []) ≡ bytes_after cs ++ up_to p
  unfolding after_line_calls after_line_call read_promise
  one_call cs p =
      let r = after_line_calls (fresh_reader room) cs in
      let c : LineRead = record { lent = l; piece = p } in
      let t = lent_state l r.state in
      let v = untrue (valid_reader t) (λ e. (never_12 room enough cs l whole).reads p ((refused_exactly t p).1 e)) in
      ap (λ (x : Reader). x.bytes) (all_append (fresh_reader room) cs (given p ∷ []) ∙ call-stream r c) ∙ stream-read r (bytes_read r c)
      ∙ ap (λ (x : List ℕ). r.bytes ++ x) (rw v (piece-up_to t p))

  later : (cs : List LineCall) (p : List ℕ) → bytes_after (cs ++ behind_each l p) ≡ bytes_after cs ++ behind p
  unfolding behind_each behind
  later cs [] = simp append-nil
  later cs (suc b ∷ bs) = later cs bs
  later cs (zero ∷ bs) =
      ap bytes_after (sym (append_assoc cs (given bs ∷ []) (behind_each l bs))) ∙ later (cs ++ given bs ∷ []) bs
      ∙ rw (one_call cs bs, append_assoc, both bs)

  whole-piece : (cs : List LineCall) (p : List ℕ) → bytes_after ((cs ++ given p ∷ []) ++ behind_each l p) ≡ bytes_after cs ++ p
  whole-piece cs p = later (cs ++ given p ∷ []) p ∙ rw (one_call cs p, append_assoc, both p)

  reads-from : (cs : List LineCall) (ps : List (List ℕ)) → bytes_after (cs ++ calls_for l ps) ≡ bytes_after cs ++ joined_pieces ps
  unfolding calls_for joined_pieces
  reads-from cs [] = simp append-nil
  reads-from cs (p ∷ ps) =
      ap bytes_after (sym (append_assoc cs (given p ∷ []) (behind_each l p ++ calls_for l ps))
      ∙ sym (append_assoc (cs ++ given p ∷ []) (behind_each l p) (calls_for l ps)))
      ∙ reads-from ((cs ++ given p ∷ []) ++ behind_each l p) ps ∙ rw (whole-piece cs p, append_assoc)

pub cut_reads : CutReads
unfolding fresh_reader reader_on after_line_calls
cut_reads room enough l whole ps = reads-from room enough l whole [] ps
