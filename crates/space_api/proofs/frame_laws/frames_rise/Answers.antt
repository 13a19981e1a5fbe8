use Rattle.space_api.proofs.Frames.{spans_are_pages, frames_of-le, no_frames}
use Rattle.space_api.proofs.frame_laws.frames_rise.Goals as goal

pub returns-clause-pages : goal.returns-clause-pages
returns-clause-pages c = spans_are_pages

pub returns-clause-more : goal.returns-clause-more
returns-clause-more c = frames_of-le

pub returns-clause-none : goal.returns-clause-none
returns-clause-none c = no_frames
