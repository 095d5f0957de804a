-- Exchanges in which nothing is lost, any number of them from two starts. The wire is as `InOrder` says at every moment.
-- So this hypothesis can be met. Any lookups and sets make such exchanges. Assumes nothing.
use mathlib.Core.Path.{◌≡◌, refl, sym, ap, ◌∙◌}
use mathlib.Core.Bool.{true, false}
use mathlib.Core.List.{List, [], ◌∷◌, ◌++◌, append_assoc}
use mathlib.Core.Option.{none, some}
use Prim.Native.Nat.{ℕ, suc, ◌+◌, ◌≤◌, ◌<◌}
use native.Mathlib.Omega.{arith}
use lib.ListN.{length, length-append}
use borrow.Author.Tests.{le-leb, le-ltb, lt-leb}
use Rattle.octets.specs.Bytes.{Each, Byte, bytes}
use Rattle.octets.proofs.Numbers.{length-bytes, bytes-each}
use Rattle.line.specs.Limits.{longest_data}
use Rattle.line.specs.Message.{Message, InRange, message}
use Rattle.line.specs.Frame.{frame, form, split, non_empty}
use Rattle.line_claims.proofs.CobsClaims.{no_zero}
use Rattle.line_claims.proofs.MessageLaws.{message-each}
use Rattle.line_claims.specs.Loans.{first, enough_part}
use Rattle.octets.proofs.Each.{each_append}
use Rattle.line_claims.specs.Calls.{gathered}
use Rattle.requester.specs.State.{Request, is_some, outstanding, request_frame, MainState, main_fresh, main_state}
use Rattle.requester.specs.Limits.{last_number}
use Rattle.requester.specs.Layout
use Rattle.requester.specs.Requester
use Rattle.requester_claims.specs.View.{main_view}
use Rattle.requester_claims.specs.Histories.{main_enough, main_meant, main_meant_made}
use Rattle.requester_claims.specs.Histories as Main
use Rattle.requester_claims.proofs.History as MainHistory
use Rattle.supervisor.specs.State.{State, fresh}
use Rattle.responder.specs.Commands.{command_of_number, with_number, command_number, length_right}
use Rattle.responder.specs.Requests.{good, verdict, known, length_allowed, carry_out, effect, key_set, reply_of}
use Rattle.supervisor_claims.specs.ByPart.{published}
use Rattle.supervisor_claims.specs.View.{view}
use Rattle.supervisor_claims.specs.Histories as Supervisor
use Rattle.supervisor_claims.proofs.calls.SendingClaim.{frame-bytes}
use Rattle.supervisor_claims.proofs.claims.History as SupervisorHistory
use Rattle.both_claims.specs.Ends
use Rattle.both_claims.specs.Ends.{over, InOrderAfter, GoesOn, reply_to_request, as_message, BothStarts, ends_begun, together, ends_after}
use Rattle.both_claims.specs.Ends.{ends_after_all, Always, EndCallTyped}
use Rattle.both_claims.proofs.RoundTrip.{lent-enough, next-number}
use Rattle.both_claims.specs.Witness.{all_lent}
use Rattle.both_claims.proofs.laws.Table.{table-passes}
use Rattle.both_claims.proofs.laws.Held.{held-parts, reply-in-range}
use Rattle.both_claims.proofs.laws.Ranges.{ranged-message}
use Rattle.both_claims.proofs.laws.BothCalls.{begun-both}
use Rattle.both_claims.specs.Exchanges.{Exchange, request_did, exchange_calls, Exchanges, finished, next, call_handed, all_handed}
use Rattle.both_claims.specs.Exchanges.{requests_exchanged, replies_of, Clean}
use Rattle.both_claims.proofs.laws.OneExchange.{AtRest}
use Rattle.both_claims.proofs.laws.OneExchange.{exchange-goes-on, exchange-number, exchange-typed, exchange-in-order}
use Rattle.both_claims.proofs.laws.OneExchange.{exchange-handed, exchange-rest}
use Rattle.both_claims.specs.Exchanges.{RepliedRequest, ExchangesOf}
use Rattle.both_claims.specs.BothEnds.{CleanExchange, LookupServed, SetServed, ServedExchanges}

-- ---- the claim

-- both ends are at rest after two starts
pub begun-rest : (s : BothStarts) → AtRest (ends_begun s)
unfolding main_fresh fresh split non_empty gathered
begun-rest s =
    let m = (MainHistory.started s.main-parts s.main_lent s.main_accepted).state in
    let v =
    (SupervisorHistory.started s.supervisor_parts s.supervisor_bytes s.supervisor_lent s.start_data s.start_typed
    s.supervisor_accepted).0 in
    record {
      both = begun-both (ends_begun s) (together s);
      idle = rw m;
      between = ap (λ (x : State). x.received) v;
      whole = refl;
      quiet = record { pending = ap (λ (x : State). x.pending) v; terminator_owed = ap (λ (x : State). x.terminator_owed) v };
      in_order = record { to_supervisor = over; to_main = over };
    }

-- calls behind other calls
always-append : (C : Ends.Ends → Ends.EndCall → Type 0) (e : Ends.Ends) (ts us : List Ends.EndCall) → Always C e ts
    → Always C (ends_after_all e ts) us → Always C e (ts ++ us)
unfolding ends_after_all
always-append C e [] us h k = k
always-append C e (t ∷ ts) us h k = (h.0, always-append C (ends_after e t) ts us h.1 k)

handed-append : (e : Ends.Ends) (ts us : List Ends.EndCall) → all_handed e (ts ++ us) ≡ all_handed e ts
    ++ all_handed (ends_after_all e ts) us
unfolding all_handed ends_after_all
handed-append e [] us = refl
handed-append e (t ∷ ts) us =
    rw (handed-append (ends_after e t) ts us)
    (sym (append_assoc (call_handed e t) (all_handed (ends_after e t) ts) (all_handed (ends_after_all (ends_after e t) ts) us)))

from-rest : {e : Ends.Ends} {ts : List Ends.EndCall} → AtRest e → (xs : Exchanges e ts) → Clean xs
unfolding replies_of all_handed
from-rest rest finished = record { typed = tt; goes_on = tt; in_order = tt; handed = refl }
from-rest {e} rest (next {ts = ts} x xs) =
    let k = from-rest (exchange-rest e rest x) xs in
    record {
      typed = each_append EndCallTyped (exchange_calls x) ts (exchange-typed e rest x) k.typed;
      goes_on = always-append GoesOn e (exchange_calls x) ts (exchange-goes-on e rest x) k.goes_on;
      in_order = always-append InOrderAfter e (exchange_calls x) ts (exchange-in-order e rest x) k.in_order;
      handed = handed-append e (exchange_calls x) ts ∙ rw (exchange-handed e rest x, k.handed);
    }

pub clean_exchange : CleanExchange
clean_exchange s ts xs = from-rest (begun-rest s) xs

-- ---- there are such exchanges

pub lookup_served : LookupServed
unfolding known length_allowed command_of_number with_number command_number length_right carry_out effect reply_of
lookup_served k most =
    let l : length (bytes 1 k ++ bytes 2 most) ≡ 3 = simp (length-append, length-bytes) in
    record {
      ranged = record {
        command = omega arith;
        bytes = each_append Byte (bytes 1 k) (bytes 2 most) (bytes-each 1 k) (bytes-each 2 most);
        fits = omega (arith, l);
      };
      listed = refl;
      length-right = rw l;
      replied = λ image s n. (_, refl, refl);
    }

pub set_served : SetServed
unfolding known length_allowed command_of_number with_number command_number length_right carry_out effect key_set reply_of
set_served k v h f =
    let l : length (bytes 1 k ++ v) ≡ suc (length v) = rw (length-append, length-bytes) (omega arith) in
    record {
      ranged = record { command = omega arith; bytes = each_append Byte (bytes 1 k) v (bytes-each 1 k) h; fits = omega (arith, l) };
      listed = refl;
      length-right = le-leb 1 (length (bytes 1 k ++ v)) (omega (arith, l));
      replied = λ image s n. (_, refl, refl);
    }

-- all of each part is lent
abbrev parts_lent : Supervisor.Lent
parts_lent i = first (published i)

receive-enough : (image piece : List ℕ) → Supervisor.enough (Supervisor.receive image piece) parts_lent ≡ true
unfolding Supervisor.enough enough_part
receive-enough image piece = refl

take_enough : (space : List ℕ) → Supervisor.enough (Supervisor.local (Supervisor.take space)) parts_lent ≡ true
unfolding Supervisor.enough enough_part
take_enough space = refl

-- with none outstanding, a request goes out into a room as long as its frame
idle-puts : (s : MainState) → s ≡ main_state s.newest none none false (some []) → s.newest < last_number → (q : Request)
    → length q.payload ≤ longest_data → let f = request_frame (suc s.newest) q in
    (main_meant_made s (record { lent = all_lent; call = Main.request q.command q.payload f })).answer ≡ Main.put (length f)
unfolding main_meant_made main_enough enough_part main_meant Requester.request
idle-puts s e low q h =
    let f = request_frame (suc s.newest) q in
    let i : is_some (outstanding s) ≡ false = rw e in
    rw (le-ltb longest_data (length q.payload) h, i, lt-leb last_number s.newest low, le-ltb (length f) (length f) (omega arith))

-- from rest, as long as there is a next number
module _ (e : Ends.Ends) (rest : AtRest e) (low : (main_view e.main).newest < last_number) (q : Request) (served : RepliedRequest q) where
  abbrev n : ℕ
  n = suc (main_view e.main).newest

  abbrev room : List ℕ
  room = request_frame n q

  abbrev reply : (r : Message) × (reply_to_request [] (view e.supervisor) (as_message n q) ≡ some r) × (r.version ≡ 1)
  reply = served.replied [] (view e.supervisor) n

  puts : (request_did e q room all_lent).answer ≡ Main.put (length room)
  puts =
      (MainHistory.one_call e.main (record { lent = all_lent; call = Main.request q.command q.payload room })
      rest.both.main).answer
      ∙ idle-puts (main_view e.main) rest.idle low q served.ranged.fits

  number : Layout.newest_number (request_did e q room all_lent).parts.requester ≡ n
  number = next-number e.main rest.both.main all_lent q.command q.payload room (length room) puts

  ranged : InRange (as_message n q)
  ranged = ranged-message n q low served.ranged

  passed : verdict (form (as_message n q)) ≡ good (as_message n q)
  passed = table-passes (as_message n q) ranged refl (omega (arith, low)) served.listed served.length-right

  reply-bytes : Each Byte (frame reply.0)
  reply-bytes =
      let m = as_message n q in
      let nonzero = no_zero (message m) (message-each m served.ranged.bytes) in
      let s = rest.both.supervisor in
      frame-bytes reply.0
      (reply-in-range [] tt (view e.supervisor) (form m) nonzero (held-parts e.supervisor s) m passed reply.0
      reply.1).typed.payload

  unfoldable served-exchange : Exchange e
  served-exchange = record {
    request = q;
    request_typed = (served.ranged.command, served.ranged.bytes);
    room = room;
    request_lent = all_lent;
    count = length room;
    put = puts;
    image = [];
    image-bytes = tt;
    passed = rw number passed;
    reply = reply.0;
    earns = rw number reply.1;
    first = reply.2;
    frame_lent = parts_lent;
    frame_enough = receive-enough [] _;
    space = frame reply.0;
    space_bytes = reply-bytes;
    long = omega arith;
    take_lent = parts_lent;
    take_enough = take_enough (frame reply.0);
    reply_lent = all_lent;
    reply_enough = lent-enough (frame reply.0);
  }

  exchange-request : served-exchange.request ≡ q
  unfolding served-exchange
  exchange-request = refl

made-next : {e : Ends.Ends} (x : Exchange e) (q : Request) (qs : List Request) → x.request ≡ q
    → ExchangesOf (ends_after_all e (exchange_calls x)) qs → ExchangesOf e (q ∷ qs)
unfolding requests_exchanged
made-next x q qs h k = record {
  calls = exchange_calls x ++ k.calls;
  exchanges = next x k.exchanges;
  requests = ap (λ (y : Request). y ∷ requests_exchanged k.exchanges) h ∙ ap (λ (ys : List Request). q ∷ ys) k.requests;
}

-- as many as there are numbers
served-from : (e : Ends.Ends) → AtRest e → (qs : List Request) → Each RepliedRequest qs
    → (main_view e.main).newest + length qs ≤ last_number
    → ExchangesOf e qs
unfolding requests_exchanged
served-from e rest [] served low = record { calls = []; exchanges = finished; requests = refl }
served-from e rest (q ∷ qs) served low =
    let there : (main_view e.main).newest < last_number = omega (arith, low) in
    let x = served-exchange e rest there q served.0 in
    let k =
    served-from (ends_after_all e (exchange_calls x)) (exchange-rest e rest x) qs served.1 (omega (arith, low, exchange-number e rest x)) in
    made-next x q qs (exchange-request e rest there q served.0) k

pub served_exchanges : ServedExchanges
unfolding main_fresh
served_exchanges s qs served low =
    let m = (MainHistory.started s.main-parts s.main_lent s.main_accepted).state in
    served-from (ends_begun s) (begun-rest s) qs served (rw m (omega (arith, low)))
