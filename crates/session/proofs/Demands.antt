-- Each demand with its proof.
use Rattle.listing.proofs.Whole.{lists-all}
use Rattle.transmit.proofs.Whole.{sent_whole, reply_sent}
use Rattle.model.proofs.Runs.{every_run}
use Rattle.model.proofs.Corollaries.{open_iff, refused_iff, empty_piece, completion_sent, accept_iff, unlink_iff, attached_to, answered_stays, consumption}
use Rattle.model.proofs.Corollaries.{late_ticket, ended-ticket, cancelled_ticket}
use Rattle.model.proofs.Cut.{consumes, cutting, cutting_answers, draining}
use Rattle.model.proofs.Stale.{stale_listed}
use Rattle.model.proofs.Times.{times_unseen}
use Rattle.model.proofs.Untouched.{untouched, work-free, keeps}
use Rattle.exchanges.proofs.Known.{known}
use Rattle.session.specs.Demands.{Demand1, Demand2, Demand3}
use Rattle.session.proofs.Cuts.{code_cutting}
use Rattle.session.proofs.Run.{code_run, code_inquires, same_struct, code_refuses}

pub demand_1 : Demand1
demand_1 = (open_iff, refused_iff, empty_piece, untouched, keeps, code_refuses)

pub demand_2 : Demand2
demand_2 = (
  lists-all,
  sent_whole,
  reply_sent,
  completion_sent,
  accept_iff,
  unlink_iff,
  attached_to,
  answered_stays,
  consumption,
  consumes,
  cutting,
  cutting_answers,
  draining,
  work-free,
  code_cutting,
  same_struct,
  times_unseen,
  known,
)

pub demand_3 : Demand3
demand_3 = (every_run, code_run, late_ticket, ended-ticket, cancelled_ticket, stale_listed, code_inquires)
