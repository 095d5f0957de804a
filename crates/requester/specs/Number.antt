-- The number of the reply to a request: the request's, with the top bit of 64 set.
-- Assumes nothing: these are definitions.
use Rattle.requester.specs.Requester.{reply_sequence}
use Rattle.requester.specs.declared.number.RequestNumber.{RequestNumber}
use Rattle.requester.specs.declared.number.ReplyNumber.{ReplyNumber}

abbrev pub main_reply_number : RequestNumber → ReplyNumber
main_reply_number n = record { 0 = reply_sequence n.0 }
