use Rattle.plain_space.proofs.Flats.{place_has}
use Rattle.plain_space.proofs.pages.Pages.make_page.Goals as goal

pub returns-in-Some-clause-made : goal.returns-in-Some-clause-made
returns-in-Some-clause-made c =
    place_has c.args.self.now.list.items c.args.number _ c.in-Some.ensures
