-- The cut law over any cuts.
-- A stream received in any two lists of pieces, with one image and one loan, leaves the same bytes in every part. Assumes nothing.
use mathlib.Core.Path.{◌≡◌, refl, sym, ap, subst, ◌∙◌}
use mathlib.Core.Bool.{Bool, true, false}
use mathlib.Core.List.{List, [], ◌∷◌, ◌++◌, flatten}
use mathlib.Core.Logic.{◌⊎◌, inl, inr}
use Prim.Native.Nat.{ℕ}
use Rattle.octets.specs.Bytes.{Each, Byte}
use Rattle.supervisor.specs.Calls.{Parts}
use Rattle.responder.specs.Receive
use Rattle.supervisor_claims.specs.Sound.{Bytes, Lengths}
use Rattle.supervisor_claims.specs.Histories
use Rattle.supervisor_claims.specs.Histories.{Answer, refused, done, Did, did, Lent, lent_of, Made, made, Output, outputs, left}
use Rattle.supervisor_claims.specs.Histories.{receive_with}
use Rattle.supervisor_claims.specs.Demand2.{AllAnswer, receive_calls, AllDone, AllRefused, CutAny}
use Rattle.supervisor_claims.proofs.Sound.{lengths-same}
use Rattle.supervisor_claims.proofs.laws.Locality.{lent-bytes, back-lent, back-leaves, lent_again, back-again}
use Rattle.supervisor_claims.proofs.calls.ReceiveClaim.{fed-leaves}
use Rattle.supervisor_claims.proofs.claims.LentCalls.{parts-valid}
use Rattle.supervisor_claims.proofs.claims.History.{refused_made, cut}

-- done, or refused as 12
abbrev done_where : Bool → Answer
done_where true = done
done_where false = refused 12

-- what a call answered and handed out
abbrev output_of : Did → Output
output_of d = record { answer = d.answer; out = d.out }

module _ (image : List ℕ) (i : Each Byte image) (l : Lent) where
  -- ---- one piece, on any parts

  abbrev receiving : List ℕ → Made
  receiving = receive_with image l

  module _ (p : Parts) (b : Bytes p) where
    -- the parts that are lent keep their lengths, and all parts hold bytes
    received-keeps : (piece : List ℕ) → Each Byte piece
        → Lengths (lent_of l p) (did (lent_of l p) (Histories.receive image piece)).parts × Bytes (made p (receiving piece)).parts
    unfolding made did Receive.receive_promise
    received-keeps piece h = by (Receive.valid_parts (lent_of l p)) refl
      where
        by : (t : Bool) → Receive.valid_parts (lent_of l p) ≡ t
            → Lengths (lent_of l p) (did (lent_of l p) (Histories.receive image piece)).parts × Bytes (made p (receiving piece)).parts
        by true e =
            let f = fed-leaves image (lent_of l p) piece i (record { valid = parts-valid (lent_of l p) e; bytes = lent-bytes l p b }) h in
            rw e (f.2, (back-leaves l p _ b f).1.bytes)
        by false e = rw (e, back-lent l p) (lengths-same, b)

    -- and what is lent of the parts then is what the piece left of the parts lent
    pub received-lent : (piece : List ℕ) → Each Byte piece
        → lent_of l (made p (receiving piece)).parts ≡ (did (lent_of l p) (Histories.receive image piece)).parts
    unfolding made
    received-lent piece h = lent_again l p (did (lent_of l p) (Histories.receive image piece)).parts (received-keeps piece h).0

    -- another behind it
    pub cut-made : (u v : List ℕ) → Each Byte u → made p (receiving (u ++ v)) ≡ made (made p (receiving u)).parts (receiving v)
    unfolding made
    cut-made u v h =
        let q = (did (lent_of l p) (Histories.receive image u)).parts in
        let n = (received-keeps u h).0 in
        rw (
          lent_again l p q n,
          cut image (lent_of l p) u v (lent-bytes l p b) i h,
          back-again l p q n (did q (Histories.receive image v)).parts,
        )

    -- a piece of no bytes changes nothing
    none-received : (made p (receiving [])).parts ≡ p
    unfolding made did Receive.receive_promise Receive.feed_bytes
    none-received = by (Receive.valid_parts (lent_of l p)) refl
      where
        by : (t : Bool) → Receive.valid_parts (lent_of l p) ≡ t → (made p (receiving [])).parts ≡ p
        by true e = rw (e, back-lent l p)
        by false e = rw (e, back-lent l p)

    -- whatever its bytes are, it is done where the parts that are lent are as 12 requires
    output-so : (piece : List ℕ)
        → output_of (made p (receiving piece)) ≡ record { answer = done_where (Receive.valid_parts (lent_of l p)); out = [] }
    unfolding made did Receive.receive_promise
    output-so piece = by (Receive.valid_parts (lent_of l p)) refl
      where
        by : (t : Bool) → Receive.valid_parts (lent_of l p) ≡ t
            → output_of (made p (receiving piece)) ≡ record { answer = done_where t; out = [] }
        by true e = rw e
        by false e = rw e

    pub answer-so : (piece : List ℕ) → (made p (receiving piece)).answer ≡ done_where (Receive.valid_parts (lent_of l p))
    answer-so piece = ap (λ (t : Output). t.answer) (output-so piece)

  -- ---- pieces are the whole

  -- what the calls leave, and what each answers, is what one call with all the bytes leaves and answers
  pub pieces_whole : (p : Parts) → Bytes p → (pieces : List (List ℕ)) → Each (Each Byte) pieces
      → let whole = made p (receiving (flatten pieces)) in
      (left p (receive_calls image l pieces) ≡ whole.parts) × AllAnswer whole.answer (outputs p (receive_calls image l pieces))
  unfolding receive_calls left outputs flatten
  pieces_whole p b [] h = (sym (none-received p b), tt)
  pieces_whole p b (u ∷ pieces) h =
      let c : made p (receiving (flatten (u ∷ pieces))) ≡ made (made p (receiving u)).parts (receiving (flatten pieces)) =
      cut-made p b u (flatten pieces) h.0 in
      let k = pieces_whole (made p (receiving u)).parts (received-keeps p b u h.0).1 pieces h.1 in
      let a : (made p (receiving (flatten (u ∷ pieces)))).answer ≡ done_where (Receive.valid_parts (lent_of l p)) =
      answer-so p b (u ++ flatten pieces) in (
        k.0 ∙ ap (λ (d : Did). d.parts) (sym c),
        (
          cc (output-so p b u, a),
          subst (λ (d : Did). AllAnswer d.answer (outputs (made p (receiving u)).parts (receive_calls image l pieces))) (sym c) k.1,
        ),
      )

-- ---- any two cuts

pub cut_any : CutAny
cut_any image i l p b ps qs h k e = (x.0 ∙ sym y.0, by (Receive.valid_parts (lent_of l p)) (answer-so image i l p b (flatten qs)))
  where
    whole : Did
    whole = made p (receive_with image l (flatten qs))

    x : (left p (receive_calls image l ps) ≡ whole.parts) × AllAnswer whole.answer (outputs p (receive_calls image l ps))
    x = rw e at (pieces_whole image i l p b ps h)

    y : (left p (receive_calls image l qs) ≡ whole.parts) × AllAnswer whole.answer (outputs p (receive_calls image l qs))
    y = pieces_whole image i l p b qs k

    by : (t : Bool) → whole.answer ≡ done_where t
        → (AllDone image l p ps × AllDone image l p qs) ⊎ (AllRefused image l p ps × AllRefused image l p qs)
    by true a = inl (rw a at x.1, rw a at y.1)
    by false a =
        let z = (refused_made p (receive_with image l (flatten qs)) (rw a tt)).0 in
        inr ((rw a at x.1, x.0 ∙ z), (rw a at y.1, y.0 ∙ z))
