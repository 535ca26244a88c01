use Rattle.std.proofs.Common.{sym, ◌∙◌}
use Rattle.job.specs.Reading.{meant}
use Rattle.rules.specs.Job.{track}
use Rattle.rules.specs.Laws.Job.{outward_pointed}
use Rattle.table.specs.Tested.{tested_of}
use Rattle.skin_list.specs.Orders.{order_asked}
use Rattle.track.specs.Stages.{front_listed}
use Rattle.track.proofs.grown.list_front.Goals as goal

pub invariant_of-table : goal.invariant_of-table
invariant_of-table c = record { tested = (tested_of c.requires.0).0 }

pub of-order-requires : goal.of-order-requires
of-order-requires c = ((tested_of c.requires.0).1, λ asked. c.requires.3 (outward_pointed track (meant c.args.h) (sym c.asks_outward-outward.ensures ∙ asked)))

pub returns : goal.returns
returns c = front_listed _ _ _ _ _ c.row_count-n.ensures c.asks_outward-outward.ensures (rw (c.of-order.ensures.0, order_asked _ c.asks_outward-outward.result _ c.of-order.ensures.1) at c.list_skin.ensures)
