-- Which requests were started.
use Rattle.std.specs.Prelude.{◌≡◌, ℕ, List, map}
use Rattle.book_log.specs.declared.started.Started.{Started}
use Rattle.request_lines.specs.declared.request.Request.{Request}

-- the function and the packet of a request, as it was started
abbrev pub asked_of_started : Started → ℕ × List ℕ
asked_of_started one = (one.function, one.given.packet)

-- the same, as it was read
abbrev pub asked_of_request : Request → ℕ × List ℕ
asked_of_request request = (request.function, request.packet)

-- what was started are these requests, in their order, each for its function and with its packet
abbrev pub AreAsked : List Request → List Started → Type 0
AreAsked requests started = map asked_of_started started ≡ map asked_of_request requests
