use Rattle.journal_laws.proofs.Listing.{remove_keys, promote_keys, push_keys, last_keys}
use Rattle.journal_laws.proofs.Listing.{is_full_keys, contains_keys}
use Rattle.journal_laws.proofs.lists.layers_are_listed.Goals as goal

pub returns-clause-removed : goal.returns-clause-removed
returns-clause-removed c = λ k es. remove_keys k es

pub returns-clause-touched : goal.returns-clause-touched
returns-clause-touched c = λ k slot es h. promote_keys k es slot h

pub returns-clause-put : goal.returns-clause-put
returns-clause-put c = λ k slot list. push_keys k slot list

pub returns-clause-last : goal.returns-clause-last
returns-clause-last c = λ list. last_keys list

pub returns-clause-full : goal.returns-clause-full
returns-clause-full c = λ list h. is_full_keys list h

pub returns-clause-found : goal.returns-clause-found
returns-clause-found c = λ k es. contains_keys k es
