-- What each local call answers and does, in document 01's words: start, keys, alerts, options, sending, the line signal.
-- Assumes nothing: these are definitions.
use Rattle.std.specs.Prelude.{Bool, true, false, cond, not, ◌||◌, List, [], ◌∷◌, ◌++◌, ℕ, zero, suc, ◌+◌, ◌^◌, leb, ltb, eqb, length, take}
use Rattle.std.specs.Prelude.{drop, get_or}
use Rattle.std.proofs.Math.Option.{Option, none, some}
use Rattle.octets.specs.Bytes.{bytes, bit}
use Rattle.supervisor.specs.Limits.{bsu_a, bsu_b, inventory_item, inventory_absent, inventory_failed, most_items, longest_item_data}
use Rattle.supervisor.specs.Limits.{longest_image_id, highest_key, passphrase_key, most_alerts, longest_alert, highest_option}
use Rattle.supervisor.specs.State.{Item, Factory, Setting, State, setting, with_status, with_options, with_waiting, with_pending}
use Rattle.supervisor.specs.State.{with_terminator_owed, fresh}

-- ---- Start data: refused as 11

-- the result of an item
abbrev pub result_allowed : ℕ → Bool
result_allowed n = eqb n inventory_item || (eqb n inventory_absent || eqb n inventory_failed)

abbrev pub bsu_allowed : ℕ → Bool
bsu_allowed n = eqb n bsu_a || eqb n bsu_b

unfoldable pub bad_item : Item → Bool
bad_item i = ltb longest_item_data (length i.payload) || not (result_allowed i.result)

unfoldable pub any_bad : List Item → Bool
any_bad [] = false
any_bad (i ∷ is) = bad_item i || any_bad is

unfoldable pub bad_start : Factory → Bool
bad_start f =
    ltb most_items (length f.items) || any_bad f.items || ltb longest_image_id (length f.image_id)
    || not (bsu_allowed f.bsu)

-- a refusal by its number, or the state that a call leaves
pub data Done : Type 0 where
  refused : ℕ → Done
  left : State → Done

unfoldable pub start : Factory → Done
start f = cond (bad_start f) (refused 11) (left (fresh f))

-- ---- Bits of a number

unfoldable pub set_bit : ℕ → ℕ → ℕ
set_bit n k = cond (eqb (bit n k) 1) n (n + 2 ^ k)

-- the highest of the k lowest bits that is set; none where none is
unfoldable pub highest : ℕ → ℕ → Option ℕ
highest zero n = none
highest (suc k) n = cond (eqb (bit n k) 1) (some k) (highest k n)

-- the highest option bit set is at most 8
abbrev pub at_most : ℕ → Option ℕ → Bool
at_most most none = true
at_most most (some k) = leb k most

unfoldable pub options_allowed : ℕ → Bool
options_allowed options = at_most highest_option (highest 64 options)

-- ---- Keys

-- the value of key 0: "pong"
abbrev pub pong : List ℕ
pong = 0x70 ∷ 0x6f ∷ 0x6e ∷ 0x67 ∷ []

-- a factory key has edition 0
abbrev pub factory_value : List ℕ → Setting
factory_value v = record { edition = 0; value = some v }

-- the edition and the value of a key up to the highest
unfoldable pub entry_of : State → ℕ → Setting
entry_of s key =
    cond (eqb key 0) (factory_value pong)
    (cond (eqb key 1) (factory_value s.factory.image_id)
    (cond (eqb key 2) (factory_value (bytes 4 (length s.factory.items) ++ bytes 4 0))
    (setting s.settings key)))

-- a lookup's result, and the edition and the value where the result is 0
pub record Found : Type 0 where
  pub result : ℕ
  pub edition : ℕ
  pub value : List ℕ

abbrev pub without : ℕ → Found
without n = record { result = n; edition = 0; value = [] }

-- no value 2, longer than maxresponse 3: the value alone counts
unfoldable pub fitted : ℕ → ℕ → Option (List ℕ) → Found
fitted most edition none = without 2
fitted most edition (some v) = cond (ltb most (length v)) (without 3) (record { result = 0; edition = edition; value = v })

-- an invalid key 1, the passphrase 4, whether or not a value is held (document 02, item 14)
unfoldable pub lookup : State → ℕ → ℕ → Found
lookup s key most =
    cond (ltb highest_key key) (without 1)
    (cond (eqb key passphrase_key) (without 4)
    (let x = entry_of s key in fitted most x.edition x.value))

-- the edition of a key, with a lookup's results: an invalid key 1, the passphrase 4, no value 2
pub record Edition : Type 0 where
  pub result : ℕ
  pub edition : ℕ

abbrev pub edition_of : Setting → Edition
edition_of x = by x.value
  where
    by : Option (List ℕ) → Edition
    by none = record { result = 2; edition = 0 }
    by (some v) = record { result = 0; edition = x.edition }

unfoldable pub edition : State → ℕ → Edition
edition s key =
    cond (ltb highest_key key) (record { result = 1; edition = 0 })
    (cond (eqb key passphrase_key) (record { result = 4; edition = 0 })
    (edition_of (entry_of s key)))

-- ---- Alerts, options and sending: the state afterwards

unfoldable pub with_posted : State → ℕ → List ℕ → State
with_posted s action text =
    with_waiting (with_status s (set_bit s.status 1)) (s.waiting ++ ((record { action = action; text = text }) ∷ []))

-- tests 13, 9, 10
unfoldable pub post : State → ℕ → List ℕ → Done
post s action text =
    cond (eqb action 0) (refused 13)
    (cond (ltb longest_alert (length text)) (refused 9)
    (cond (ltb (length s.waiting) most_alerts) (left (with_posted s action text)) (refused 10)))

-- test 13
unfoldable pub set_options : State → ℕ → Done
set_options s options = cond (options_allowed options) (left (with_options s options)) (refused 13)

-- whether the last byte of a list is not zero; as before where there is none
unfoldable pub last_non_zero : Bool → List ℕ → Bool
last_non_zero before [] = before
last_non_zero before (b ∷ bs) = not (eqb (get_or (b ∷ bs) (length bs) 0) 0)

-- the smaller of the room and the bytes pending goes out
unfoldable pub taken : State → ℕ → List ℕ
taken s room = take room s.pending

unfoldable pub after_take : State → ℕ → State
after_take s room = with_terminator_owed (with_pending s (drop room s.pending)) (last_non_zero s.terminator_owed (taken s room))

-- ---- The line signal

-- asserted exactly when status is not 0
unfoldable pub asserted : State → Bool
asserted s = not (eqb s.status 0)
