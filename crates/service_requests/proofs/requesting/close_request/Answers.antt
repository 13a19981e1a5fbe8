use Rattle.std.proofs.Common.{◌≡◌, true, false, refl, sym, ◌∙◌, subst}
use Rattle.plan_model.specs.Outline.{Outline}
use Rattle.request_service.specs.Ending.{to_park}
use Rattle.service_requests.proofs.requesting.close_request.Goals as goal

pub park_request-requires : goal.park_request-requires
park_request-requires g c κs = (
  c.type_bounds.send-T-Space,
  (
    c.type_bounds.send-T-Frozen,
    (
      c.type_bounds.send-T-Shelf,
      (
        c.type_bounds.send-T-Spares,
        (
          (refl, tt),
          (
            c.requires.copied,
            (
              c.requires.sizes,
              (
                c.requires.grounds,
                (
                  c.requires.may.idle (subst (λ (p : Outline). to_park p.numbers c.args.answer.end
                      c.args.answer.used ≡ true) c.plan.ensures
                      (sym c.is_parked.ensures ∙ c.if-is_parked.true)),
                  subst (λ (p : Outline). to_park p.numbers c.args.answer.end
                      c.args.answer.used ≡ true) c.plan.ensures
                      (sym c.is_parked.ensures ∙ c.if-is_parked.true),
                ),
              ),
            ),
          ),
        ),
      ),
    ),
  ),
)

pub returns-in_ok-park_request-clause-closes : goal.returns-in_ok-park_request-clause-closes
returns-in_ok-park_request-clause-closes g c = record {
  events = _;
  closes = c.in_ok-park_request.ensures.closes c.requires.may.due;
}

pub finish_request-requires-clause-by : goal.finish_request-requires-clause-by
finish_request-requires-clause-by g c κs within = c.requires.may.due.by

pub returns-in_ok-finish_request-clause-closes : goal.returns-in_ok-finish_request-clause-closes
returns-in_ok-finish_request-clause-closes g c = record {
  events = _;
  closes = c.in_ok-finish_request.ensures.closes c.args.context.plan c.requires.may.due
      (subst (λ (p : Outline). to_park p.numbers c.args.answer.end c.args.answer.used ≡ false)
      c.plan.ensures (sym c.is_parked.ensures ∙ c.if-is_parked.false));
}
