-- The three demands of the mission, each with the claims that make it up. What an act answers, leaves and writes is its contract
-- (Acts.antt), for every input; the claims here speak of the definitions that those contracts name, and of the code's own runs.
use Rattle.listing.specs.Lists.{ListsAll}
use Rattle.transmit.specs.Part.{SentWhole, ReplySent}
use Rattle.model.specs.Claims
use Rattle.model.specs.Corollaries
use Rattle.model.specs.Cut
use Rattle.model.specs.Stale
use Rattle.model.specs.Times
use Rattle.exchanges.specs.Exchanges.{Known}
use Rattle.session.specs.Cuts.{CodeCutting}
use Rattle.session.specs.Run.{CodeRun, CodeInquires, SameStruct, CodeRefuses}

-- "Any bytes from the network and any call from the device side get an answer." No act has a `requires`. A refusal is given
-- exactly when its row of the table holds and none before it; it changes nothing, of the code's struct too, and every other answer
-- changes just what it says.
abbrev pub Demand1 : Type 0
Demand1 = Corollaries.OpenIff × Corollaries.RefusedIff × Corollaries.EmptyPiece × Cut.Untouched × Cut.Keeps × CodeRefuses

-- "replies written exactly as the kernel's USB/IP document lays them out": a good table's list is whole, and the reply to a completion
-- goes out whole, in order. "A submit is accepted exactly when our rules allow it .. the stream may be cut anywhere", also that of
-- the code's own feeds: to the very struct. A time reaches no reply. The starred exchanges are computed.
abbrev pub Demand2 : Type 0
Demand2 =
    ListsAll
    × SentWhole
    × ReplySent
    × Corollaries.CompletionSent
    × Corollaries.AcceptIff
    × Corollaries.UnlinkIff
    × Corollaries.AttachedTo
    × Corollaries.AnsweredStays
    × Corollaries.Consumption
    × Cut.Consumes
    × Cut.Cutting
    × Cut.CuttingAnswers
    × Cut.Draining
    × Cut.WorkFree
    × CodeCutting
    × SameStruct
    × Times.TimesUnseen
    × Known

-- "For every list of feeds, completions and closings from a fresh session .. the session agrees with the plain book", of the
-- definitions and of the code's own sessions; a ticket that is no longer pending never answers anything; and the stale tickets are those of
-- the pending items that are old enough.
abbrev pub Demand3 : Type 0
Demand3 =
    Claims.EveryRun
    × CodeRun
    × Corollaries.LateTicket
    × Corollaries.EndedTicket
    × Corollaries.CancelledTicket
    × Stale.StaleListed
    × CodeInquires
