use Rattle.std.proofs.Common.{refl}
use Rattle.std.proofs.lemmas.Result.{err_from_is_err_and}
use Rattle.plan_text.proofs.Started.{too_big, image_refused}
use Rattle.plan_text.proofs.images.start.Goals as goal

pub returns-in-Err-TooBig-clause-refused : goal.returns-in-Err-TooBig-clause-refused
returns-in-Err-TooBig-clause-refused g c = λ named other.
    too_big (g.F.Files.contents c.args.files.now) c.args.name.now c.args.totals.now
    ((rw c.in-Err-TooBig.field-0-is at c.in-Err-TooBig.ensures).too_big refl)

pub returns-in_err-image-clause-refused : goal.returns-in_err-image-clause-refused
returns-in_err-image-clause-refused g c =
    let p = err_from_is_err_and c.from_residual.result c.from_residual.ensures.1 in
    rw (p.1, p.2) (λ named other.
    image_refused (g.F.Files.contents c.args.files.now) c.args.name.now c.deref.result.now
    c.args.totals.now _ (rw c.deref.ensures.value c.in-Ok.ensures.bytes)
    (c.in_err-image.ensures.refused named))
