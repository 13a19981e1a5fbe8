use Rattle.journal_laws.proofs.Listing.{remove_keys, push_keys, last_keys, is_full_keys}
use Rattle.journal_laws.proofs.Listing.{contains_keys, first_keys}
use Rattle.journal_laws.proofs.lists.idle_contexts_are_keyed.Goals as goal

pub returns-clause-removed : goal.returns-clause-removed
returns-clause-removed c = λ k es. remove_keys k es

pub returns-clause-put : goal.returns-clause-put
returns-clause-put c = λ k entry list. push_keys k entry list

pub returns-clause-last : goal.returns-clause-last
returns-clause-last c = λ list. last_keys list

pub returns-clause-full : goal.returns-clause-full
returns-clause-full c = λ list h. is_full_keys list h

pub returns-clause-found : goal.returns-clause-found
returns-clause-found c = λ k es. contains_keys k es

pub returns-clause-first : goal.returns-clause-first
returns-clause-first c = first_keys
