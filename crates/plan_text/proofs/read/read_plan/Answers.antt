use Rattle.std.proofs.Common.{◌∙◌, ap, length}
use Rattle.plan_text.proofs.read.read_plan.Goals as goal

pub new-requires : goal.new-requires
new-requires g c =
    let sound = c.in_ok-sketch.ensures.sound in
    record {
      numbers = sound.numbers;
      layer_count = sound.layer_count;
      layers = rw (c.in_ok-starts.ensures.count ∙ ap length c.deref.ensures.value) sound.layers;
      function_count = sound.function_count;
      functions = sound.functions;
    }
