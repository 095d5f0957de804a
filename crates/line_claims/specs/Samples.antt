-- Document 01's line samples L1 to L12 and the ends of full groups, as one table, held to the line layer's meaning by one computation.
-- Assumes nothing.
use Rattle.std.specs.Prelude.{List, [], ◌∷◌, ◌++◌, ℕ, replicate}
use Rattle.std.proofs.Math.Option.{Option, none, some}
use Rattle.line.specs.Checksum.{checksum}
use Rattle.line.specs.Message.{Message}
use Rattle.line.specs.Cobs.{cobs, uncobs}
use Rattle.line.specs.Frame.{frame}
use Rattle.line.specs.Judge.{LineVerdict, failure, good, judge}

-- a rule's input, and what it gives
pub data LineSample : Type 0 where
  sum : List ℕ → ℕ → LineSample
  form : List ℕ → List ℕ → LineSample
  decoded : List ℕ → Option (List ℕ) → LineSample
  read : List ℕ → LineVerdict → LineSample
  sent : Message → List ℕ → LineSample

-- the sample as the meaning has it
unfoldable pub line_sample_meant : LineSample → LineSample
line_sample_meant (sum bs n) = sum bs (checksum bs)
line_sample_meant (form bs ys) = form bs (cobs bs)
line_sample_meant (decoded ys bs) = decoded ys (uncobs ys)
line_sample_meant (read f v) = read f (judge f)
line_sample_meant (sent m w) = sent m (frame m)

-- L12: a status request with sequence 1
unfoldable pub status_request : Message
status_request = record { version = 1; sequence = 1; command = 0x08; payload = [] }

abbrev pub status_form : List ℕ
status_form =
    0x06 ∷ 0xcc ∷ 0x19 ∷ 0xde ∷ 0x01 ∷ 0x01 ∷ 0x01 ∷ 0x01 ∷ 0x02 ∷ 0x01 ∷ 0x01 ∷ 0x01 ∷ 0x01 ∷ 0x01 ∷ 0x01 ∷ 0x01 ∷ 0x04 ∷ 0x08 ∷ 0xcf
    ∷ 0x66 ∷ []

unfoldable pub line_samples : List LineSample
line_samples =
    -- L1 to L5
    sum (0x61 ∷ 0x62 ∷ 0x63 ∷ 0x64 ∷ 0x65 ∷ []) 0xC8F0
    ∷ sum (0x61 ∷ 0x62 ∷ 0x63 ∷ 0x64 ∷ 0x65 ∷ 0x66 ∷ []) 0x2057
    ∷ sum (0x61 ∷ 0x62 ∷ 0x63 ∷ 0x64 ∷ 0x65 ∷ 0x66 ∷ 0x67 ∷ 0x68 ∷ []) 0x0627
    ∷ sum [] 0
    ∷ sum (0x00 ∷ []) 0
    ∷ sum (0xff ∷ []) 0
    -- L6 to L9
    ∷ form [] (0x01 ∷ [])
    ∷ form (0x00 ∷ []) (0x01 ∷ 0x01 ∷ [])
    ∷ form (0x11 ∷ 0x22 ∷ []) (0x03 ∷ 0x11 ∷ 0x22 ∷ [])
    ∷ form (0x11 ∷ 0x00 ∷ []) (0x02 ∷ 0x11 ∷ 0x01 ∷ [])
    -- L10 to L12
    ∷ read (0x02 ∷ []) (failure 1 none)
    ∷ read (0x01 ∷ []) (failure 3 none)
    ∷ sent status_request (status_form ++ (0x00 ∷ []))
    ∷ read status_form (good status_request)
    -- full groups, alone and with a zero or a byte behind them
    ∷ form (replicate 253 7) (0xfe ∷ replicate 253 7)
    ∷ form (replicate 253 7 ++ 0 ∷ []) (0xfe ∷ replicate 253 7 ++ 0x01 ∷ [])
    ∷ form (replicate 254 7) (0xff ∷ replicate 254 7)
    ∷ form (replicate 254 7 ++ 0 ∷ []) (0xff ∷ replicate 254 7 ++ 0x01 ∷ 0x01 ∷ [])
    ∷ form (replicate 255 7) (0xff ∷ replicate 254 7 ++ 0x02 ∷ 7 ∷ [])
    ∷ form (replicate 255 7 ++ 0 ∷ []) (0xff ∷ replicate 254 7 ++ 0x02 ∷ 7 ∷ 0x01 ∷ [])
    ∷ form (replicate 508 7) (0xff ∷ replicate 254 7 ++ 0xff ∷ replicate 254 7)
    ∷ form (replicate 508 7 ++ 0 ∷ []) (0xff ∷ replicate 254 7 ++ 0xff ∷ replicate 254 7 ++ 0x01 ∷ 0x01 ∷ [])
    -- Read back: no zero follows a full group, and a last 01 after one fails (document 02's item 6). A last 02 runs past the end.
    ∷ decoded (0xff ∷ replicate 254 7) (some (replicate 254 7))
    ∷ decoded (0xff ∷ replicate 254 7 ++ 0x01 ∷ []) none
    ∷ decoded (0xff ∷ replicate 254 7 ++ 0xff ∷ replicate 254 7) (some (replicate 508 7))
    ∷ decoded (0xff ∷ replicate 254 7 ++ 0xff ∷ replicate 254 7 ++ 0x01 ∷ []) none
    ∷ decoded (0x01 ∷ 0xff ∷ replicate 254 7 ++ 0x01 ∷ []) none
    ∷ decoded (0xff ∷ replicate 254 7 ++ 0x01 ∷ 0x01 ∷ []) (some (replicate 254 7 ++ 0 ∷ []))
    ∷ decoded (0xff ∷ replicate 254 7 ++ 0x02 ∷ 7 ∷ []) (some (replicate 255 7))
    ∷ decoded (0xfe ∷ replicate 253 7 ++ 0x01 ∷ []) (some (replicate 253 7 ++ 0 ∷ []))
    ∷ read (0xff ∷ replicate 254 7 ++ 0x01 ∷ []) (failure 1 none)
    ∷ read (0xff ∷ replicate 254 7 ++ 0x02 ∷ []) (failure 1 none)
    ∷ []
