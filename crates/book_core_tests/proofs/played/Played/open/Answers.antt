use Rattle.book_core_tests.proofs.Images.{is_noting, is_staked, is_whole}
use Rattle.book_core_tests.proofs.played.Played.open.Goals as goal

pub open-requires-clause-stake : goal.open-requires-clause-stake
open-requires-clause-stake g c = is_staked c.args.sizes.root c.args.count _ _ _
    g.T.Space.Space.takes_frames c.requires.root c.requires.fresh c.in-Ok.ensures.shelf

pub open-requires-clause-notes : goal.open-requires-clause-notes
open-requires-clause-notes g c = is_noting c.args.sizes.root c.args.count _ _ _ _
    g.T.Space.Space.takes_frames c.requires.root c.in-Ok.ensures.images.count_is c.requires.fresh
    c.in-Ok.ensures.shelf

pub open-requires-clause-whole : goal.open-requires-clause-whole
open-requires-clause-whole g c = is_whole _ c.in-Ok.images.items c.args.sizes.root c.args.count
    _ _ g.T.Space.Space.takes_frames c.requires.root c.requires.fresh c.in-Ok.ensures.shelf
