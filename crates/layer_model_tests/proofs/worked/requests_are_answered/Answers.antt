use Rattle.layer_model_tests.proofs.Replying as replying
use Rattle.layer_model_tests.proofs.worked.requests_are_answered.Goals as goal

pub returns-clause-first : goal.returns-clause-first
returns-clause-first c = replying.first_reply

pub returns-clause-second : goal.returns-clause-second
returns-clause-second c = replying.second_reply

pub returns-clause-unread : goal.returns-clause-unread
returns-clause-unread c = replying.unread_reply

pub returns-clause-clock : goal.returns-clause-clock
returns-clause-clock c = replying.clock_reply

pub returns-clause-short : goal.returns-clause-short
returns-clause-short c = replying.short_reply

pub returns-clause-enough : goal.returns-clause-enough
returns-clause-enough c = replying.enough_reply

pub returns-clause-console : goal.returns-clause-console
returns-clause-console c = replying.console_reply

pub returns-clause-lower : goal.returns-clause-lower
returns-clause-lower c = replying.lower_reply

pub returns-clause-upper : goal.returns-clause-upper
returns-clause-upper c = replying.upper_reply
