use Rattle.std.proofs.Common.{◌≡◌, ◌≤◌, length}
use Rattle.request_lines.specs.Requests.{lines_of, requests_from}
use Rattle.request_lines.proofs.Reading.{put_all_before}
use Rattle.request_lines.proofs.read.read_requests.Given as goal

-- what was read stands before what the lines that are left say
abbrev pub invariant-lines : goal.invariant-lines
invariant-lines l = record {
  same : put_all_before l.requests.items (requests_from l.names l.number (lines_of l.rest))
      ≡ requests_from l.names 1 (lines_of l.bytes);
  few : l.number ≤ 4097;
}

abbrev pub decreases-lines : goal.decreases-lines
decreases-lines l = length l.rest
