-- The cut law. Receives that read the same bytes hand out the same, in order, and leave the same bytes in every part.
-- It is so whatever each is lent. Assumes nothing.
use mathlib.Core.Path.{◌≡◌, refl, sym, ap, ◌∙◌}
use mathlib.Core.Bool.{Bool, true, false, cond, false≢true}
use mathlib.Core.List.{List, [], ◌∷◌, ◌++◌, append-nil}
use Prim.Native.Nat.{ℕ, zero, suc}
use lib.Dec.{eqb-suc-zero}
use lib.ListN.{take}
use lib.Seq.{append_snoc}
use Rattle.requester.specs.Calls
use Rattle.requester.specs.Calls.{MainParts, handed_report_of, MainPartsValid}
use Rattle.requester.proofs.ValidLaws.{valid-parts}
use Rattle.requester_claims.specs.Histories
use Rattle.requester_claims.specs.Histories.{MainCall, MainAnswer, refused, done, put, received, stands, MainDid, main_did}
use Rattle.requester_claims.specs.Histories.{handed_data_in, receipt_did, main_enough, MainMade, main_made}
use Rattle.requester_claims.proofs.OneByte.{Fed, feed, stops_at, Walked, walked, walk}
use Rattle.requester_claims.proofs.ByteClaim.{feed-follows, feed-quiet, received-walk}
use Rattle.requester_claims.proofs.CallClaims.{report-received}
use Rattle.requester_claims.proofs.LentCalls.{whole, too_little}
use Rattle.requester_claims.proofs.History.{one_call, valid-long-enough, started}
use Rattle.requester_claims.specs.Histories.{OfMainStart, OfValid}
use Rattle.requester_claims.specs.Item2.{MainCut, CutBetween}
use Rattle.requester_claims.specs.Cuts.{handed_events, MainRead, Listener, listening, answered_by, after_main_read, after_main_reads}
use Rattle.requester_claims.specs.Cuts.{stretch_outputs, left_by_stretches}

-- ---- byte by byte

fed_to : Listener → List ℕ → Fed → Listener
fed_to x bs f = record {
  handed = x.handed ++ handed_events (handed_report_of f.handed) (handed_data_in (handed_report_of f.handed) f.parts.reader) f.ended;
  bytes = x.bytes ++ bs;
  parts = f.parts;
}

unfoldable after_byte : Listener → ℕ → Listener
after_byte x b = fed_to x (b ∷ []) (feed x.parts b)

unfoldable stream : Listener → List ℕ → Listener
stream x [] = x
stream x (b ∷ bs) = stream (after_byte x b) bs

stream-append : (x : Listener) (bs cs : List ℕ) → stream x (bs ++ cs) ≡ stream (stream x bs) cs
unfolding stream
stream-append x [] cs = refl
stream-append x (b ∷ bs) cs = stream-append (after_byte x b) bs cs

stream-read : (x : Listener) (bs : List ℕ) → (stream x bs).bytes ≡ x.bytes ++ bs
unfolding stream after_byte fed_to
stream-read x [] = sym (append-nil x.bytes)
stream-read x (b ∷ bs) = stream-read (after_byte x b) bs ∙ append_snoc x.bytes b bs

-- a byte that does not stop a call hands nothing out
quiet : (x : Listener) (b : ℕ) → MainPartsValid x.parts → stops_at x.parts.reader b ≡ false
    → after_byte x b ≡ record { handed = x.handed; bytes = x.bytes ++ b ∷ []; parts = (feed x.parts b).parts }
unfolding after_byte fed_to handed_events handed_report_of
quiet x zero v e = absurd (false≢true (sym e))
quiet x (suc b) v e =
    let p = x.parts in
    rw (feed-quiet p v.reader b (rw eqb-suc-zero at e), append-nil)

-- more bytes behind those of a byte that hands nothing out
fed-later : (x : Listener) (b : ℕ) (cs : List ℕ) (f : Fed) → MainPartsValid x.parts → stops_at x.parts.reader b ≡ false
    → fed_to x (b ∷ cs) f ≡ fed_to (after_byte x b) cs f
unfolding fed_to
fed-later x b cs f v e = rw (quiet x b v e) (rw append_snoc)

walk-stream : (piece : List ℕ) (x : Listener) → MainPartsValid x.parts
    → let w = walk x.parts piece in fed_to x (take w.used piece) w.fed ≡ stream x (take w.used piece)
unfolding walk stream fed_to after_byte handed_events handed_report_of
walk-stream [] x v = rw (append-nil, append-nil)
walk-stream (b ∷ bs) x v =
    by (stops_at x.parts.reader b) refl (walk-stream bs (after_byte x b) (feed-follows x.parts v b).valid)
  where
    y : Listener
    y = after_byte x b

    i : Walked
    i = walk y.parts bs

    by : (t : Bool) → stops_at x.parts.reader b ≡ t → fed_to y (take i.used bs) i.fed ≡ stream y (take i.used bs)
        → let w = cond t (walked 1 (feed x.parts b)) (walked (suc i.used)
        i.fed) in fed_to x (take w.used (b ∷ bs)) w.fed ≡ stream x (take w.used (b ∷ bs))
    by true e h = refl
    by false e h = fed-later x b (take i.used bs) i.fed v e ∙ h

-- ---- one call

abbrev used_of : MainAnswer → ℕ
used_of (refused n) = 0
used_of done = 0
used_of (put n) = 0
used_of (received used t e u) = used
used_of (stands x) = 0

-- the bytes that a call reads
abbrev pub bytes_read : Listener → MainRead → List ℕ
bytes_read x c = take (used_of (main_made x.parts (record { lent = c.lent; call = Histories.receive c.piece })).answer) c.piece

did-stream : (x : Listener) (c : MainRead) → MainPartsValid x.parts → let d = main_did x.parts (Histories.receive c.piece) in
    answered_by x c d.answer d.out d.parts ≡ stream x (take (used_of d.answer) c.piece)
unfolding main_did Calls.main_receive_promise receipt_did fed_to
did-stream x c v =
    let p = x.parts in
    let w = walk p c.piece in
    rw (
      valid-parts p v,
      received-walk c.piece p v.reader,
      report-received w.used w.fed.handed w.fed.ended _,
    )
    (walk-stream c.piece x v)

call-stream : (x : Listener) (c : MainRead) → MainPartsValid x.parts → after_main_read x c ≡ stream x (bytes_read x c)
unfolding after_main_read stream
call-stream x c v = by (main_enough call c.lent) refl
  where
    call : MainCall
    call = Histories.receive c.piece

    p : MainParts
    p = x.parts

    -- what a call did, and the bytes that it read
    P : MainDid → Type 0
    P d = answered_by x c d.answer d.out d.parts ≡ stream x (take (used_of d.answer) c.piece)

    by : (t : Bool) → main_enough call c.lent ≡ t → P (main_made p (record { lent = c.lent; call = call }))
    by true e = rw (whole c.lent p (valid-long-enough p v) call e) (did-stream x c v)
    by false e = rw (too_little c.lent p call e) refl

-- ---- receives, one after the other

call-valid : (x : Listener) (c : MainRead) → MainPartsValid x.parts → MainPartsValid (after_main_read x c).parts
unfolding after_main_read
call-valid x c v =
    let m : MainMade = record { lent = c.lent; call = Histories.receive c.piece } in
    by (main_made x.parts m).answer (main_made x.parts m).out (one_call x.parts m v).valid
  where
    by : (a : MainAnswer) (d : List ℕ) {p : MainParts} → MainPartsValid p → MainPartsValid (answered_by x c a d p).parts
    by (refused n) d w = w
    by done d w = w
    by (put n) d w = w
    by (received used t e u) d w = w
    by (stands y) d w = w

reads-valid : (x : Listener) (cs : List MainRead) → MainPartsValid x.parts → MainPartsValid (after_main_reads x cs).parts
unfolding after_main_reads
reads-valid x [] v = v
reads-valid x (c ∷ cs) v = reads-valid (after_main_read x c) cs (call-valid x c v)

reads-stream : (x : Listener) (cs : List MainRead) → MainPartsValid x.parts → (bs : List ℕ) × (after_main_reads x cs ≡ stream x bs)
unfolding after_main_reads stream
reads-stream x [] v = ([], refl)
reads-stream x (c ∷ cs) v =
    let q = reads-stream (after_main_read x c) cs (call-valid x c v) in
    (bytes_read x c ++ q.0, q.1 ∙ ap (λ y. stream y q.0) (call-stream x c v) ∙ sym (stream-append x (bytes_read x c) q.0))

pub cut : OfValid MainCut
cut p v cs ds e =
    let x = reads-stream (listening p) cs v in
    let y = reads-stream (listening p) ds v in
    let same : x.0 ≡ y.0 = cc (x.1, y.1, stream-read (listening p) x.0, stream-read (listening p) y.0) in
    x.1 ∙ ap (stream (listening p)) same ∙ sym y.1

-- ---- between other calls

pub cut_between : OfValid CutBetween
unfolding stretch_outputs left_by_stretches
cut_between p v [] [] h = (refl, refl)
cut_between p v [] (t ∷ ts) h = absurd h
cut_between p v (s ∷ ss) [] h = absurd h
cut_between p v (s ∷ ss) (t ∷ ts) h =
    let c = cut p v s.reads t.reads h.0 in
    let x = after_main_reads (listening p) s.reads in
    let w = (one_call x.parts s.behind (reads-valid (listening p) s.reads v)).valid in
    let i = cut_between (main_made x.parts s.behind).parts w ss ts h.2 in
    rw (← c, ← h.1) (rw i.0, i.1)

pub cut_between_started : OfMainStart CutBetween
cut_between_started p l h = cut_between _ (started p l h).valid
