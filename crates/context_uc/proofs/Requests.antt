-- A context that served a request more.
use Rattle.std.proofs.Common.{◌≡◌, ◌+◌, ◌<◌, Bool, true, [], ◌∷◌, ◌++◌, length, refl}
use Rattle.std.proofs.Common.{arith, length-append}
use Rattle.layer_model.proofs.Places.{context_more}
use Rattle.space_api.specs.Flat.{Flat, machine_of}
use Rattle.space_api.specs.Holding.{Holding}
use Rattle.space_api.specs.declared.given.Given.{Given}
use Rattle.context_uc.specs.Runs.{HasRested}
use Rattle.context_uc.specs.Views.{ContextView, IsModel, IsSound, HasFew, silent}

rested_is_model : {S : Type 0} (c : ContextView S) (flat : Flat) (given : Given)
    → HasRested c flat given
    → IsModel c.plan c.function c.layer (c.served ++ given ∷ []) (machine_of c.hart flat silent)
rested_is_model c flat given rested = record {
  function = rested.function;
  layer = rested.layer;
  function_is = rested.function_is;
  context_is = context_more c.plan rested.layer.start c.layer c.served given rested.context
      (machine_of c.hart flat silent) rested.context_is
      (record {
        counted = rested.counted;
        rested = machine_of c.hart flat rested.traffic;
        run = rested.run;
        after_is = refl;
      });
}

few_more : {S : Type 0} (c : ContextView S) (given : Given) → length c.served < c.uses
    → HasFew c.layer c.served c.uses c.stripped
    → HasFew c.layer (c.served ++ given ∷ []) c.uses c.stripped
few_more c given room few =
    let long : length (c.served ++ given ∷ []) ≡ length c.served + 1
    = length-append c.served (given ∷ []) in
    let some = few.stripped_few in
    record {
      served_few = omega (arith, long, room);
      uses_few = few.uses_few;
      level_few = few.level_few;
      stripped_few = omega (arith, long, some);
    }

pub served_is_sound : {S : Type 0} (takes : Bool) (c : ContextView S) (given : Given) (flat : Flat)
    (finished : Bool) (held : Holding) → HasRested c flat given → length c.served < c.uses
    → IsSound takes c flat finished held
    → IsSound takes (record c { served = c.served ++ given ∷ []; still = true }) flat finished held
served_is_sound takes c given flat finished held rested room sound = record {
  model = λ _. rested_is_model c flat given rested;
  few = few_more c given room sound.few;
  ready = sound.ready;
}
