-- The demands follow from the contract of `track::run`, and say all that it says: they leave one possible result.
use Rattle.std.specs.Prelude.{◌≡◌, refl, ◌≢◌, List, ℕ, ◌+◌, ◌-◌, ◌<◌, leb, take}
use Rattle.std.proofs.Common.{sym, ap, ap₂, ◌∙◌, ⊎_elim, arith, leb-true, leb-false}
use Rattle.rules.specs.Proposals.{taken}
use Rattle.rules.specs.Job.{track, header_of, Lent, codes, run}
use Rattle.rules.specs.Laws.Truth.{true_or_false, same_or_not}
use Rattle.track.specs.Outcomes.{Outcome, result_of}
use Rattle.demands.specs.Demands.{Demands}
use Rattle.demands.specs.Given.{demand_1}
use Rattle.demands.specs.Grown.{demand_2}
use Rattle.demands.specs.Rings.{demand_3}
use Rattle.demands.specs.Finite.{skin_finite}
use Rattle.demands.specs.Outwards.{skin_outward}
use Rattle.demands.specs.Tallies.{corner_tallies}

module _ (bytes : List ℕ) (before : Lent) where
  pub kept : {o : Outcome} {after : Lent} → result_of o after ≡ run track bytes before → Demands bytes before o after
  kept ran = record {
    one = demand_1 bytes before ran;
    two = demand_2 bytes before ran;
    three = demand_3 bytes before ran;
    finite = skin_finite bytes before ran;
    outwards = skin_outward bytes before ran;
    tallies = corner_tallies bytes before ran;
  }

  -- any two results that keep them are equal
  module _ {o p : Outcome} {after left : Lent} (d : Demands bytes before o after) (e : Demands bytes before p left) where
    abbrev Same : Type 0
    Same = (o ≡ p) × (after ≡ left)

    same_outcome : o.code ≡ p.code → o.place ≡ p.place → o.taken ≡ p.taken → o.triangles ≡ p.triangles → o ≡ p
    same_outcome code place taken triangles = λ i. record { code = code i; place = place i; taken = taken i; triangles = triangles i }

    same_left : after.answers ≡ left.answers → after.final_marks ≡ left.final_marks → after.triangles ≡ left.triangles → after.work ≡ left.work → after ≡ left
    same_left answers marks triangles work = λ i. record { answers = answers i; final_marks = marks i; triangles = triangles i; work = work i }

    accepted_same : o.code ≡ 0 → Same
    accepted_same z =
        let y = e.one.run_exactly.1 (d.one.run_exactly.0 z) in
        let a = d.two z in
        let b = e.two y in
        let answers = a.answers_left ∙ sym b.answers_left in (
          same_outcome (z ∙ sym y) (a.place_zero ∙ sym b.place_zero)
              (a.taken_counted ∙ ap (λ (xs : List ℕ). taken (take (header_of bytes).proposals xs)) answers ∙ sym b.taken_counted)
              (a.triangles_counted ∙ sym b.triangles_counted),
          same_left answers (a.marks_left ∙ sym b.marks_left) (a.triangles_left ∙ sym b.triangles_left) (a.work_left ∙ sym b.work_left),
        )

    refused_same : o.code ≢ 0 → Same
    refused_same ne =
        let i = o.code - 1 in
        let is : o.code ≡ 1 + i = omega (arith, ne) in
        let below : i < codes = omega (arith, ne, d.one.answered) in
        let (code, place) = (e.one.refused_exactly i o.place below).1 ((d.one.refused_exactly i o.place below).0 (is, refl)) in
        let same : o.code ≡ p.code = is ∙ sym code in
        let no : p.code ≢ 0 = λ (z : p.code ≡ 0). ne (same ∙ z) in
        let (ta, tr, a, m, t) = d.one.refusal_leaves ne in
        let (ta', tr', a', m', t') = e.one.refusal_leaves no in (
          same_outcome same (sym place) (ta ∙ sym ta') (tr ∙ sym tr'),
          same_left (a ∙ sym a') (m ∙ sym m') (t ∙ sym t')
              (⊎_elim (λ l. let few = leb-true o.code 4 l in d.one.work_kept ne few ∙ sym (e.one.work_kept no (omega arith)))
              (λ l. let more = leb-false o.code 4 l in d.one.work_cleared (omega arith) ∙ sym (e.one.work_cleared (omega arith)))
              (true_or_false (leb o.code 4))),
        )

    pub demands_settle : (o ≡ p) × (after ≡ left)
    demands_settle = ⊎_elim accepted_same refused_same (same_or_not o.code 0)

  -- so they say all that the contract says
  pub say_all : {o : Outcome} {after : Lent} → Demands bytes before o after → result_of o after ≡ run track bytes before
  say_all d =
      let r = run track bytes before in
      let own : Demands bytes before (record { code = r.code; place = r.place; taken = r.taken; triangles = r.triangles }) r.left = kept refl in
      let (o_is, after_is) = demands_settle d own in
      ap₂ result_of o_is after_is
