-- What the reader's promise means, said of what has come of a frame (`received_of`) and of nothing inside the state.
-- The laws are of a start, a byte, a 00, a piece, the data that are handed out, and what stays of a state.
-- The crates above reason by them. Assumes nothing.
use mathlib.Core.Path.{◌≡◌, refl, sym, ap, ◌∙◌}
use mathlib.Core.Bool.{Bool, true, false, cond}
use mathlib.Core.List.{List, [], ◌∷◌, ◌++◌}
use mathlib.Core.Option.{Option, none, some}
use Prim.Native.Nat.{ℕ, zero, suc, ◌+◌, ◌≤◌, ◌<◌}
use native.Mathlib.Nat.{add-zero}
use native.Mathlib.Omega.{arith}
use lib.Dec.{ltb, eqb-suc-zero}
use lib.ListN.{length, take, drop, length-take, take-append-drop}
use lib.Seq.{length-take-le}
use borrow.Author.Tests.{lt-leb, ltb-true, ltb-false, le-ltb}
use Rattle.octets.specs.Bytes.{Byte, Each, bytes, run, overlay}
use Rattle.octets.proofs.Conditions.{cond-by}
use Rattle.octets.proofs.Each.{each_take, each-drop}
use Rattle.octets.proofs.Numbers.{bytes-each}
use Rattle.octets.proofs.Overlay.{run_more, length_run, length-overlay, overlay-before, overlay-get_d-inside, overlay-each}
use Rattle.octets.proofs.Zeros.{zeros, length-zeros, zeros-number, zeros-each}
use Rattle.line.specs.Limits.{longest_data, longest_form}
use Rattle.line.specs.Message.{Message}
use Rattle.line.specs.Cobs.{uncobs}
use Rattle.line.specs.Judge.{good, payload_of, wrong_length, fields, more_received, judge_received, decoded_received}
use Rattle.line.specs.ReaderLayout.{frame_offset, overlong, received_count, with_count, received_bytes, unpacked, data_offset}
use Rattle.line.specs.Reader.{reader_length, received_of, valid_reader, reader_fresh, pushed, closed_state, finish, one_byte_later}
use Rattle.line.specs.Reader.{read_piece, tail_of, tail_promise, data_given_promise, part_of, data_promise}
use Rattle.line.proofs.Judged.{judge-good, uncobs-each, more_room, more-over, received-good}
use Rattle.line.proofs.State.{Ready, valid-ready, ready-valid, length-counted, count-counted, run-counted, ready-pushed}
use Rattle.line.proofs.Held.{received_none, received-some, received-nothing, length_kept, data-unpacked, finish-leaves}
use Rattle.line.proofs.Lent.{received-append, valid-append}

-- ---- valid states

pub valid-long : (s : List ℕ) → valid_reader s ≡ true → reader_length ≤ length s
valid-long s v = (valid-ready s v).0

pub short-invalid : (s : List ℕ) → length s < reader_length → valid_reader s ≡ false
unfolding valid_reader
short-invalid s h = rw (lt-leb reader_length (length s) h)

-- valid, and as long as before
pub record ReaderStays (s t : List ℕ) : Type 0 where
  pub valid : valid_reader t ≡ true
  pub long : length t ≡ length s

pub stays_same : {s : List ℕ} → valid_reader s ≡ true → ReaderStays s s
stays_same v = record { valid = v; long = refl }

pub stays_then : {r s t : List ℕ} → ReaderStays r s → ReaderStays s t → ReaderStays r t
stays_then a b = record { valid = b.valid; long = b.long ∙ a.long }

counted-each : (n : ℕ) (s : List ℕ) → Each Byte s → Each Byte (with_count n s)
unfolding with_count
counted-each n s h = overlay-each Byte 0 (bytes 2 n) s (bytes-each 2 n) h

-- ---- a start

module _ (s : List ℕ) (h : reader_length ≤ length s) where
  fresh-long : length (reader_fresh s) ≡ length s
  unfolding reader_fresh
  fresh-long = length-overlay 0 (zeros reader_length) s (rw (length-zeros reader_length) h)

  fresh-count : received_count (reader_fresh s) ≡ 0
  unfolding reader_fresh received_count
  fresh-count = zeros-number reader_length 2 s (omega arith)

  pub fresh-received : received_of (reader_fresh s) ≡ some []
  fresh-received = received-nothing (reader_fresh s) fresh-count

  pub fresh-stays : ReaderStays s (reader_fresh s)
  fresh-stays =
      record { valid = ready-valid (reader_fresh s) (omega (arith, fresh-long), omega (arith, fresh-count)); long = fresh-long }

pub fresh-each : (s : List ℕ) → Each Byte s → Each Byte (reader_fresh s)
unfolding reader_fresh
fresh-each s h = overlay-each Byte 0 (zeros reader_length) s (zeros-each Byte reader_length (omega arith)) h

-- ---- a byte that is not 00

-- a byte put behind a run
run-put : (at n b : ℕ) (s : List ℕ) → at + n < length s → run at (n + 1) (overlay (at + n) (b ∷ []) s) ≡ run at n s ++ (b ∷ [])
run-put at n b s h =
    let o = overlay (at + n) (b ∷ []) s in
    let l : length o ≡ length s = length-overlay (at + n) (b ∷ []) s (omega arith) in
    let e = rw add-zero at (overlay-get_d-inside (at + n) 0 0 (b ∷ []) s (omega arith) (omega arith)) in
    rw (run_more at n o (omega arith), overlay-before (at + n) at n (b ∷ []) s (omega arith) (omega arith), e)

module _ (s : List ℕ) (b : ℕ) (r : Ready s) where
  abbrev n : ℕ
  n = received_count s

  abbrev put : List ℕ
  put = overlay (frame_offset + n) (b ∷ []) s

  received-room : n < longest_form → received_of (with_count (n + 1) put) ≡ more_received (received_of s) b
  unfolding received_bytes
  received-room h =
      let l : length put ≡ length s = length-overlay (frame_offset + n) (b ∷ []) s (omega arith) in
      let c = count-counted (n + 1) put (omega arith) (omega arith) in
      let k = length_kept s r.0 (omega arith) in
      rw (
        received-some (with_count (n + 1) put) (omega arith),
        received-some s (omega arith),
        more_room (received_bytes s) b (omega arith),
      )
      (rw (c, run-counted (n + 1) put (omega arith) (n + 1), run-put frame_offset n b s (omega arith)))

  received-over : longest_form ≤ n → received_of (with_count overlong s) ≡ more_received (received_of s) b
  unfolding more_received
  received-over h =
      let c = count-counted overlong s (omega arith) (omega arith) in
      rw (received_none (with_count overlong s) (omega arith)) (by (ltb longest_form n) refl)
    where
      by : (t : Bool) → ltb longest_form n ≡ t → none ≡ more_received (received_of s) b
      by true e = rw (received_none s (ltb-true _ _ e))
      by false e =
          let l = ltb-false longest_form n e in
          let k = length_kept s r.0 l in
          rw (received-some s l) (sym (more-over (received_bytes s) b (omega arith)))

module _ (s : List ℕ) (b : ℕ) (v : valid_reader s ≡ true) where
  pub pushed-received : received_of (pushed s b) ≡ more_received (received_of s) b
  unfolding pushed
  pushed-received =
      let r = valid-ready s v in
      cond-by (λ (t : List ℕ). received_of t ≡ more_received (received_of s) b) (ltb (received_count s) longest_form) _ _
      (λ e. received-room s b r (ltb-true _ _ e)) (λ e. received-over s b r (ltb-false _ _ e))

  pub pushed-stays : ReaderStays s (pushed s b)
  pushed-stays =
      let r = valid-ready s v in
      let p = ready-pushed s b r in
      record { valid = ready-valid (pushed s b) (omega arith, p.1); long = p.0 }

pub pushed-each : (s : List ℕ) (b : ℕ) → b < 256 → Each Byte s → Each Byte (pushed s b)
unfolding pushed
pushed-each s b l h =
    let n = received_count s in
    cond-by (Each Byte) (ltb n longest_form) _ _
    (λ e. counted-each (n + 1) _ (overlay-each Byte (frame_offset + n) (b ∷ []) s (l, tt) h)) (λ e. counted-each overlong s h)

-- ---- what has come

module _ (s bs : List ℕ) (e : received_of s ≡ some bs) where
  abbrev Some : Option (List ℕ) → Type 0
  Some o = o ≡ some bs → (received_count s ≤ longest_form) × (received_bytes s ≡ bs)

  held : (received_count s ≤ longest_form) × (received_bytes s ≡ bs)
  unfolding received_of
  held =
      cond-by Some (ltb longest_form (received_count s)) _ _
      (λ f p. absurd (let z : ◌≡◌ {A = ℕ} 0 1 = cc in omega arith)) (λ f p. (ltb-false _ _ f, cc)) e

  -- at most 4,140 bytes
  pub received-most : valid_reader s ≡ true → length bs ≤ longest_form
  received-most v = rw (← held.1, length_kept s (valid-long s v) held.0) held.0

  -- bytes, where the state has bytes
  pub received-each : Each Byte s → Each Byte bs
  unfolding received_bytes
  received-each h = rw (← held.1) (each_take Byte (received_count s) _ (each-drop Byte frame_offset s h))

pub tail-received : (s : List ℕ) → valid_reader s ≡ true → tail_promise s ≡ tail_of (received_of s)
unfolding tail_promise
tail-received s v = rw v

-- ---- a 00

unpacked-data : (s form xs d : List ℕ) → Ready s → uncobs form ≡ some xs → wrong_length xs ≡ false → d ≡ payload_of xs
    → data_promise (unpacked (uncobs form) s) (length d) ≡ d
unfolding unpacked
unpacked-data s form xs d r e f p = rw (e, f, p) (data-unpacked s r.0 xs r.1 f)

module _ (s : List ℕ) (v : valid_reader s ≡ true) where
  -- nothing is left of the frame
  pub finish-received : received_of (finish s).state ≡ some []
  finish-received = received-nothing (finish s).state (finish-leaves s (valid-long s v)).1

  pub finish-stays : ReaderStays s (finish s).state
  finish-stays =
      let h = valid-long s v in
      let p = finish-leaves s h in
      record { valid = ready-valid (finish s).state (omega arith, omega arith); long = p.0 }

  -- the data of a good message stand in the state
  pub finish-data : (m : Message) → judge_received (received_of s) ≡ some (good m)
      → data_promise (finish s).state (length m.payload) ≡ m.payload
  unfolding finish closed_state fields
  finish-data m e =
      let h = valid-long s v in
      let f = received-good (received_of s) m e in
      let g = judge-good f.0 m f.2 in
      let l = length-counted 0 s (omega arith) in
      let c = count-counted 0 s (omega arith) (omega arith) in
      rw f.1
      (unpacked-data (with_count 0 s) f.0 g.xs m.payload (omega arith, omega arith) g.decoded g.fits
      (ap (λ (x : Message). x.payload) g.is))

unpacked-each : (o : Option (List ℕ)) (s : List ℕ) → ((xs : List ℕ) → o ≡ some xs → Each Byte xs) → Each Byte s → Each Byte (unpacked o s)
unfolding unpacked
unpacked-each none s f h = h
unpacked-each (some xs) s f h = cond-by (Each Byte) (wrong_length xs) _ _ (λ e. h) (λ e. overlay-each Byte frame_offset xs s (f xs refl) h)

pub finish-each : (s : List ℕ) → Each Byte s → Each Byte (finish s).state
unfolding finish closed_state
finish-each s h = unpacked-each (decoded_received (received_of s)) (with_count 0 s) (λ xs. by (received_of s) refl xs) (counted-each 0 s h)
  where
    by : (o : Option (List ℕ)) → received_of s ≡ o → (xs : List ℕ) → decoded_received o ≡ some xs → Each Byte xs
    by none e xs d = absurd (let z : ◌≡◌ {A = ℕ} 0 1 = cc in omega arith)
    by (some form) e xs d = uncobs-each form xs (received-each s form e h) d

-- ---- a piece

pub read_stays : (piece s : List ℕ) → valid_reader s ≡ true → ReaderStays s (read_piece s piece).state
unfolding read_piece one_byte_later
read_stays [] s v = stays_same v
read_stays (zero ∷ bs) s v = finish-stays s v
read_stays (suc b ∷ bs) s v =
    let p = pushed-stays s (suc b) v in
    rw eqb-suc-zero (stays_then p (read_stays bs (pushed s (suc b)) p.valid))

pub read-each : (piece s : List ℕ) → Each Byte piece → Each Byte s → Each Byte (read_piece s piece).state
unfolding read_piece one_byte_later
read-each [] s p h = h
read-each (zero ∷ bs) s p h = finish-each s h
read-each (suc b ∷ bs) s p h = rw eqb-suc-zero (read-each bs (pushed s (suc b)) p.1 (pushed-each s (suc b) p.0 h))

-- ---- the data

pub data-length : (s : List ℕ) (n : ℕ) → valid_reader s ≡ true → n ≤ longest_data → length (data_promise s n) ≡ n
unfolding data_promise data_given_promise part_of
data-length s n v h =
    let l = valid-long s v in
    rw (v, le-ltb longest_data n h) (length_run data_offset n s (omega arith))

-- of any state: a refused call hands out nothing
pub data-refused : (s : List ℕ) (n k : ℕ) → data_given_promise s n ≡ some k → data_promise s n ≡ []
unfolding data_promise part_of
data-refused s n k e = rw e

pub data-short : (s : List ℕ) (n : ℕ) → length (data_promise s n) ≤ longest_data
unfolding data_promise data_given_promise part_of
data-short s n =
    cond-by Short (valid_reader s) (cond (ltb longest_data n) (some 9) none) (some 12)
    (λ v. cond-by Short (ltb longest_data n) (some 9) none
    (λ e. omega arith)
    (λ e. let k = ltb-false longest_data n e in omega (arith, length-take n (drop data_offset s))))
    (λ v. omega arith)
  where
    Short : Option ℕ → Type 0
    Short x = length (part_of x (run data_offset n s)) ≤ longest_data

-- ---- states that begin alike

-- a valid state and one with the same published bytes
module _ (s t : List ℕ) (v : valid_reader s ≡ true) (e : take reader_length t ≡ take reader_length s) where
  abbrev first : List ℕ → List ℕ
  first x = take reader_length x

  enough : reader_length ≤ length (first s)
  enough = let h = valid-long s v in rw (length-take-le reader_length s h) (omega arith)

  alike : {A : Type 0} (f : List ℕ → A) → ((x u : List ℕ) → reader_length ≤ length x → f (x ++ u) ≡ f x) → f t ≡ f s
  alike f append =
      let a = rw take-append-drop at (append (first s) (drop reader_length s) enough) in
      let b = rw take-append-drop at (append (first t) (drop reader_length t) (rw e enough)) in
      b ∙ ap f e ∙ sym a

  pub received-alike : received_of t ≡ received_of s
  received-alike = alike received_of received-append

  pub valid-alike : valid_reader t ≡ true
  valid-alike = alike valid_reader valid-append ∙ v
