-- The commands of requests, in document 01's order: the number of each and the data that it takes ("Requests and what they do").
-- Assumes nothing: these are definitions.
use Rattle.std.specs.Prelude.{Bool, true, false, cond, List, [], ◌∷◌, ℕ, leb, eqb}
use Rattle.std.proofs.Math.Option.{Option, none, some}
use Rattle.line.specs.Numbers.{command_reboot, command_power_off, command_bsu, command_identity, command_mac, command_boot_failure}
use Rattle.line.specs.Numbers.{command_panic, command_status, command_start_acknowledged, command_alert, command_image_block}
use Rattle.line.specs.Numbers.{command_key_lookup, command_inventory, command_key_set}

pub data Command : Type 0 where
  reboot : Command
  power-off : Command
  bsu : Command
  identity : Command
  mac : Command
  boot-failure : Command
  panic : Command
  status : Command
  start-acknowledged : Command
  alert : Command
  image_block : Command
  key_lookup : Command
  inventory : Command
  key_set : Command

unfoldable pub command_number : Command → ℕ
command_number reboot = command_reboot
command_number power-off = command_power_off
command_number bsu = command_bsu
command_number identity = command_identity
command_number mac = command_mac
command_number boot-failure = command_boot_failure
command_number panic = command_panic
command_number status = command_status
command_number start-acknowledged = command_start_acknowledged
command_number alert = command_alert
command_number image_block = command_image_block
command_number key_lookup = command_key_lookup
command_number inventory = command_inventory
command_number key_set = command_key_set

-- the data of three of them: hash[32], offset u64; key u8, maxresponse u16; index u32
abbrev pub image_block_length : ℕ
image_block_length = 40

abbrev pub key_lookup_length : ℕ
key_lookup_length = 3

abbrev pub inventory_length : ℕ
inventory_length = 4

-- how many bytes of data it may have
unfoldable pub length_right : Command → ℕ → Bool
length_right reboot n = eqb n 0
length_right power-off n = eqb n 0
length_right bsu n = eqb n 0
length_right identity n = eqb n 0
length_right mac n = eqb n 0
length_right boot-failure n = leb 1 n
length_right panic n = leb 2 n
length_right status n = eqb n 0
length_right start-acknowledged n = eqb n 0
length_right alert n = eqb n 0
length_right image_block n = eqb n image_block_length
length_right key_lookup n = eqb n key_lookup_length
length_right inventory n = eqb n inventory_length
length_right key_set n = leb 1 n

-- ---- The command of a number

abbrev pub commands : List Command
commands =
    reboot ∷ power-off ∷ bsu ∷ identity ∷ mac ∷ boot-failure ∷ panic ∷ status ∷ start-acknowledged ∷ alert ∷ image_block ∷ key_lookup
    ∷ inventory ∷ key_set ∷ []

-- the one of a list that has a number
unfoldable pub with_number : ℕ → List Command → Option Command
with_number c [] = none
with_number c (x ∷ xs) = cond (eqb c (command_number x)) (some x) (with_number c xs)

-- none where it is not among those above
unfoldable pub command_of_number : ℕ → Option Command
command_of_number c = with_number c commands

-- whether there is one, and whether it may have so many bytes of data
abbrev pub is_listed : Option Command → Bool
is_listed none = false
is_listed (some x) = true

abbrev pub may_have : Option Command → ℕ → Bool
may_have none n = false
may_have (some x) n = length_right x n
