use Rattle.std.proofs.Common.{◌≡◌, ◌-◌, not, ◌∷◌, rules, arith, refl, sym, ◌∙◌, ap, length, take}
use Rattle.std.proofs.Common.{drop}
use Rattle.std.specs.List.{position}
use Rattle.std.proofs.lemmas.Iterator.{YieldsList-from_slice}
use Rattle.std.proofs.lemmas.Iterator.Search.{position_from_yields_List}
use Rattle.bench_sheet.specs.Cut.{blank, line_words}
use Rattle.bench_sheet.proofs.Cutting.{no_word, next_word}
use Rattle.bench_sheet.proofs.cut.WordsIterator.next.Goals as goal
use Rattle.bench_sheet.proofs.cut.WordsIterator.next.Goals.{After-position, After-split_at}

from : (c : After-position) → c.position.result ≡ position (λ x. not (blank x)) c.self.inside.0.now
from c =
    position_from_yields_List (λ x. not (blank x)) _ _ _ c.position.ensures.ran
    (YieldsList-from_slice c.self.inside.0.now cc) (λ x b q k. search rules)

pub returns-in_err-start-clause-steps : goal.returns-in_err-start-clause-steps
returns-in_err-start-clause-steps c =
    let at = from (goal.at.returns-in_err-start-clause-steps c).After-position in
    let none = no_word c.self.inside.0.now (cc) in
    search (rules, none)

word : (c : After-split_at)
    → c.args.self.now ≡ c.split_at.result.0.now ∷ line_words c.split_at.result.1.now
word c =
    let s = c.self.inside.0.now in
    let rest = take (length s - c.in_ok-start.start) (drop c.in_ok-start.start s) in
    let at = from (goal.at.After-split_at c).After-position in
    let to : c.position-2.result ≡ position blank rest =
    position_from_yields_List blank _ _ _ c.position-2.ensures.ran
    (YieldsList-from_slice rest cc) (λ x b q k. search rules) in
    sym c.self.view_is
    ∙ next_word s rest c.split_at.result.0.now c.split_at.result.1.now c.in_ok-start.start
    c.unwrap_or-end.result (cc) refl (cc) (cc) (cc)

pub returns-clause-steps : goal.returns-clause-steps
returns-clause-steps c = word (goal.at.returns-clause-steps c).After-split_at

pub returns-clause-goes : goal.returns-clause-goes
returns-clause-goes c =
    let h = word (goal.at.returns-clause-goes c).After-split_at in
    record {
      on = λ _. (tt, tt, grind (arith, ap length h));
      keeps = search rules;
      rests =
          search rules;
    }
