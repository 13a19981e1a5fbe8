use Rattle.std.proofs.Common.{◌-◌, sym, subst, ◌∙◌, refl, arith}
use Rattle.image_model.specs.StartOf.{page_permission}
use Rattle.image_model.specs.declared.region.Region.{Region}
use Rattle.image_start.proofs.Runs.{Continues, IsOfRun, nothing_allowed, something_allowed}
use Rattle.image_start.proofs.Runs.{no_region-continues, region-continues, give_all}
use Rattle.image_start.specs.Permission.{permission_of}
use Rattle.image_start.proofs.regions.regions.Goals as goal

pub regions-preserved-in_ok-push : goal.regions-preserved-in_ok-push
regions-preserved-in_ok-push c =
    let f = page_permission c.args.segments.now c.args.stack in
    let p = c.page_permission-permission.result in
    let page = c.regions.page in
    let end = c.run_end-end.result in
    let r : Region = record {
      page = page;
      count = end - page;
      r = p.readable;
      w = p.writable;
      x = p.executable;
    } in
    let run = c.run_end-end.ensures in
    let is : IsOfRun f page end r = record {
      run = run;
      begins = refl;
      ends = omega (arith, run.later);
      permission = c.page_permission-permission.ensures;
      accessible = something_allowed (permission_of p) p.readable_too (sym c.if-is_some.ensures);
      readable = p.readable_too;
    } in
    record {
      within = run.within;
      done = subst (Continues f end) (sym c.in_ok-push.ensures.items)
          (region-continues f page end _ r is c.regions.invariant.done);
    }

pub regions-preserved : goal.regions-preserved
regions-preserved c =
    let f = page_permission c.args.segments.now c.args.stack in
    let p = c.page_permission-permission.result in
    let page = c.regions.page in
    let none = nothing_allowed (permission_of p) (sym c.if-is_some.ensures) in
    record {
      within = c.run_end-end.ensures.within;
      done = no_region-continues f page c.run_end-end.result _ c.run_end-end.ensures
          (sym c.page_permission-permission.ensures ∙ none) c.regions.invariant.done;
    }

pub returns : goal.returns
returns c =
    let f = page_permission c.args.segments.now c.args.stack in
    let all = give_all f c.regions.page _ c.regions-test.false c.regions.invariant.done in
    c.one_regions.ensures _ f all.regions all.joined (λ q lt. all.gives q (omega arith) lt)
