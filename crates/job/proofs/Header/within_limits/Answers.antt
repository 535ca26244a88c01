use Rattle.std.proofs.Common.{◌≡◌, rules, refl, ◌∙◌}
use Rattle.rules.specs.Job.{within, within_limits}
use Rattle.job.proofs.Header.within_limits.Goals as goal

pub returns : goal.returns
unfolding within_limits
returns c =
    let ids : c.contains.result ≡ within 5 c.args.self.ids 1024 = c.contains.ensures.value ∙ rw (c.new.ensures.start, c.new.ensures.end, c.new.ensures.exhausted) (search rules) in
    let rows : c.contains-2.result ≡ within 5 c.args.self.rows 2048 = c.contains-2.ensures.value ∙ rw (c.new-2.ensures.start, c.new-2.ensures.end, c.new-2.ensures.exhausted) (search rules) in
    let proposals : c.contains-3.result ≡ within 0 c.args.self.proposals 1024 = search rules in
    rw (ids, rows, proposals) refl
