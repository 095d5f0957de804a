-- Where a customer starts: each demand of document 01 and each request of document 02.
-- Each is a record of what the crates of claims state of it. The statements speak of definitions, which the contracts of the public calls
-- cite (`docs/reading.py NAME` lists them). Assumes nothing.
use Rattle.line.specs.Item3.{LineItem3}
use Rattle.probes.specs.Item4.{ProbesItem4, UpdateDone, UpdateRefused}
use Rattle.addresses.specs.Item9.{AddressesItem9, PlanRefusedExactly}
use Rattle.line_claims.specs.Demand1.{LineAsItWas, LineNumberDue}
use Rattle.line_claims.specs.Demand3.{BlindSpots, FreshReader, LineSamples, WireDetermines}
use Rattle.line_claims.specs.Item6.{LineItem6}
use Rattle.line_claims.specs.Item12.{LineItem12}
use Rattle.line_claims.specs.Item14.{LineItem14}
use Rattle.saving_claims.specs.Item11.{SavingItem11}
use Rattle.supervisor_claims.specs.Demand1.{SupervisorAsItWas, SupervisorNumberDue}
use Rattle.supervisor_claims.specs.Demand2.{RequestsCarriedOut, Cuts, MixedLists, NumberedFailures}
use Rattle.supervisor_claims.specs.Item1.{SupervisorItem1}
use Rattle.supervisor_claims.specs.Item4.{SupervisorItem4}
use Rattle.supervisor_claims.specs.Item5.{SupervisorItem5}
use Rattle.supervisor_claims.specs.Item11.{SupervisorItem11}
use Rattle.supervisor_claims.specs.Item14.{SupervisorItem14}
use Rattle.counters_claims.specs.Item8.{CountersItem8}
use Rattle.counters_claims.specs.Item14.{CountersItem14}
use Rattle.requester_claims.specs.Demand1.{MainAsItWas, MainNumberDue}
use Rattle.requester_claims.specs.Item2.{MainItem2}
use Rattle.requester_claims.specs.Item6.{MainItem6}
use Rattle.requester_claims.specs.Item14.{MainItem14}
use Rattle.both_claims.specs.BothEnds.{OverBothEnds}
use Rattle.rot_claims.specs.Item7.{RotItem7, LinkRefusedExactly, LinkUntouched, LinkWriterRefusedExactly, LinkWriterUntouched}
use Rattle.plain_claims.specs.Item13.{PlainItem13}

-- ---- Document 01's demands

-- the table's number exactly where it is due
pub record NumberDue : Type 0 where
  pub line : LineNumberDue
  pub supervisor : SupervisorNumberDue
  pub main_processor : MainNumberDue
  -- the root-of-trust link's reader and writer, the probe list's 15, the address plan's 16
  pub link_reader : LinkRefusedExactly
  pub link_writer : LinkWriterRefusedExactly
  pub probe_update_done : UpdateDone
  pub probe_update_refused : UpdateRefused
  pub address_plan : PlanRefusedExactly

-- and, of a refused call, everything lent as it was
pub record AsItWas : Type 0 where
  pub line : LineAsItWas
  pub supervisor : SupervisorAsItWas
  pub main_processor : MainAsItWas
  -- the root-of-trust link's reader and writer, and the probe list
  pub link_reader : LinkUntouched
  pub link_writer : LinkWriterUntouched
  pub probe_update_refused : UpdateRefused

-- Any bytes, any arguments. No field says that every public call ends, stays in its memory and tests its own arguments.
-- The prover checks that when it accepts a function, and no public function's contract has a hypothesis.
pub record Demand1 : Type 0 where
  -- a bad argument gets its number from the table
  pub number_due : NumberDue
  -- then state and output buffers hold just what they held
  pub as_it_was : AsItWas

-- From a fresh start:
pub record Demand2 : Type 0 where
  -- State and replies are those got by carrying out the valid requests of the received stream, once each and in order.
  -- The local calls stand where they fell. `history_frames` says it in one statement.
  pub carried-out : RequestsCarriedOut
  -- every other non-empty frame earns exactly its numbered failure
  pub numbered_failures : NumberedFailures
  -- cutting the stream elsewhere changes nothing
  pub cuts : Cuts
  -- the same with the line layer's own calls among them
  pub mixed_lists : MixedLists

pub record Demand3 : Type 0 where
  -- wire bytes determine the list of messages
  pub wire_determines : WireDetermines
  -- any list of calls of a fresh line reader hands out exactly the messages read
  pub fresh-reader : FreshReader
  -- of changes at one or two neighbouring bytes the checksum misses exactly 00 against ff
  pub blind_spots : BlindSpots

-- document 01's cases
pub record Samples : Type 0 where
  -- L1 to L12, proved together over the meaning itself, as a single table
  pub line : LineSamples

-- ---- Document 02's requests

-- an alert from before the reboot
pub record Item1 : Type 0 where
  pub supervisor : SupervisorItem1

-- the main processor's end
pub record Item2 : Type 0 where
  pub main_processor : MainItem2

-- cheaper checksum
pub record Item3 : Type 0 where
  pub line : LineItem3

-- bigger boards
pub record Item4 : Type 0 where
  -- the probe list
  pub probes : ProbesItem4
  -- 64 items and 4,096 bytes of key 5
  pub supervisor : SupervisorItem4

-- how old is this list?
pub record Item5 : Type 0 where
  pub supervisor : SupervisorItem5

-- one spelling per frame
pub record Item6 : Type 0 where
  -- two frames read as equal bytes only if they are the same frame
  pub line : LineItem6
  -- the main processor's end takes over the stronger promise
  pub main_processor : MainItem6

-- the root-of-trust link
pub record Item7 : Type 0 where
  pub rot : RotItem7

-- field counters
pub record Item8 : Type 0 where
  pub counters : CountersItem8

-- address plan
pub record Item9 : Type 0 where
  pub addresses : AddressesItem9

-- receive faster: the promises stay
pub record Item10 : Type 0 where
  pub reader : FreshReader
  pub writer : WireDetermines

-- saving the settings
pub record Item11 : Type 0 where
  -- an image and the settings that it holds
  pub saving : SavingItem11
  -- the same over the supervisor's calls
  pub supervisor : SupervisorItem11

-- what else does the checksum miss?
pub record Item12 : Type 0 where
  pub line : LineItem12

-- a second, plain reader
pub record Item13 : Type 0 where
  pub plain : PlainItem13

-- a setting nobody may read back
pub record Item14 : Type 0 where
  pub supervisor : SupervisorItem14
  -- the same of the calls that are lent a counter block
  pub counters : CountersItem14
  -- what a start leaves at the line layer and at the main processor's end
  pub line : LineItem14
  pub main_processor : MainItem14

-- ---- Both ends together

-- What holds of an answer where both ends are this repository's; no paper asks for it. The wire may lose, delay, damage and repeat frames,
-- and others may use it. A claim asks of it what `WireUnder` says of the number in question, and more where its record says so.
pub record BothEnds : Type 0 where
  pub both_ends : OverBothEnds
