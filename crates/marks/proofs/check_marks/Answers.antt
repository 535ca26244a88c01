use Rattle.marks.specs.Start.{bad_found, outer_found, ringless_found, all_fit}
use Rattle.values.specs.Places.{none_of}
use Rattle.marks.proofs.check_marks.Goals as goal

pub returns-in-Some : goal.returns-in-Some
returns-in-Some c = bad_found _ _ _ c.args.marked.tested.4 _ c.bad_mark.ensures c.in-Some.is

pub returns-in-Some-unlike_outer : goal.returns-in-Some-unlike_outer
returns-in-Some-unlike_outer c = outer_found _ _ _ c.args.marked.tested.4 _ c.bad_mark.ensures (none_of c.in_default.not-Some) _ c.unlike_outer.ensures c.in-Some-unlike_outer.is

pub returns-in-Some-ringless_vertex : goal.returns-in-Some-ringless_vertex
returns-in-Some-ringless_vertex c = ringless_found _ _ _ c.args.marked.tested.4 _ c.bad_mark.ensures (none_of c.in_default.not-Some) _ c.unlike_outer.ensures (none_of c.in_default-unlike_outer.not-Some) _ c.ringless_vertex.ensures c.in-Some-ringless_vertex.is

pub returns : goal.returns
returns c = all_fit _ _ _ c.args.marked.tested.4 _ c.bad_mark.ensures (none_of c.in_default.not-Some) _ c.unlike_outer.ensures (none_of c.in_default-unlike_outer.not-Some) _ c.ringless_vertex.ensures (none_of c.in_default-ringless_vertex.not-Some)
