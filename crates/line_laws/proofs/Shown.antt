-- A context's reply, as a line shows it.
use Rattle.std.proofs.Common.{◌≡◌, Some, refl, sym, ◌∙◌, ap}
use Rattle.std.proofs.lemmas.Option.{none-some, same_Some}
use Rattle.batch_model.specs.Replies.{Shows, end_of_ending, no_layer_end, why_of_stop}
use Rattle.context_runs.specs.OfLayers.{stop_of_why}
use Rattle.context_runs.specs.OfRequests.{Replies, ending_of, reply_of}
use Rattle.context_runs.specs.declared.replying.RunReply.{RunReply}
use Rattle.context_uc.specs.Views.{ContextView}
use Rattle.journal_model.specs.declared.answer.End.{End}
use Rattle.journal_model.specs.declared.answer.End.TheVariants as end
use Rattle.journal_model.specs.declared.answer.Why.{Why}
use Rattle.journal_model.specs.declared.answer.Why.TheVariants as why
use Rattle.layer_model.specs.Replies.{Ending}
use Rattle.space_api.specs.declared.given.Given.{Given}

-- the reason for which a layer isn't there is told by the stop that the model knows
why_back : (w : Why) → why_of_stop (stop_of_why w) ≡ Some w
why_back why.Rest = refl
why_back (why.Halt code) = refl
why_back (why.Fault cause pc tval) = refl
why_back why.Budget = refl

ends_so : (e : End) (a ending : Ending) → end_of_ending a ≡ Some e → Some a ≡ Some ending
    → end_of_ending ending ≡ Some e
ends_so e a ending back is = ap end_of_ending (sym (same_Some a ending is)) ∙ back

-- and so is the end of a request
end_back : (e : End) (ending : Ending) → ending_of e ≡ Some ending
    → end_of_ending ending ≡ Some e
end_back end.Ok ending is = ends_so end.Ok _ ending refl is
end_back (end.Halt code) ending is = ends_so (end.Halt code) _ ending refl is
end_back (end.Fault cause pc tval) ending is = ends_so (end.Fault cause pc tval) _ ending refl is
end_back end.Budget ending is = ends_so end.Budget _ ending refl is
end_back (end.NoLayer k w) ending is =
    ends_so (end.NoLayer k w) _ ending (ap (no_layer_end k) (why_back w)) is
end_back end.Frames ending is = absurd (none-some ending is)
end_back end.Memory ending is = absurd (none-some ending is)

pub reply_is_shown : {S : Type 0} (c : ContextView S) (given : Given) (ending : Ending)
    (r : RunReply) → Replies c given ending r
    → Shows c.plan c.function c.layer c.served given (record {
      end = r.end;
      steps = r.steps;
      net = r.net;
      console = r.console;
    })
reply_is_shown c given ending r h = record {
  reply = reply_of ending r;
  replied = h.reply_is;
  end_is = end_back r.end ending h.ending_is;
  steps_are = refl;
  net_is = refl;
  console_is = refl;
}
