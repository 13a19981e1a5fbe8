use Rattle.batch_model_tests.proofs.Fitting as fitting
use Rattle.batch_model_tests.proofs.worked.texts_fit.Goals as goal

pub returns-clause-hot : goal.returns-clause-hot
returns-clause-hot c = fitting.hot_fits

pub returns-clause-warm : goal.returns-clause-warm
returns-clause-warm c = fitting.warm_fits

pub returns-clause-worn : goal.returns-clause-worn
returns-clause-worn c = fitting.worn_fits

pub returns-clause-three : goal.returns-clause-three
returns-clause-three c = fitting.three_fits

pub returns-clause-spinning : goal.returns-clause-spinning
returns-clause-spinning c = fitting.spinning_fits

pub returns-clause-two : goal.returns-clause-two
returns-clause-two c = fitting.two_fits

pub returns-clause-breaking : goal.returns-clause-breaking
returns-clause-breaking c = fitting.breaking_fits

pub returns-clause-wanted : goal.returns-clause-wanted
returns-clause-wanted c = fitting.wanted_fits
