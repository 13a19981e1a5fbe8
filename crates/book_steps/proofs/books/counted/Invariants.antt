use Rattle.book_steps.proofs.books.counted.Given as goal

-- a ledger of the book's own
abbrev pub ghosts-counted_by : goal.ghosts-counted_by
ghosts-counted_by a = record { name = a.blank.name; parts = a.blank.parts }
