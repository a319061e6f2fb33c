use Rattle.compare_write.proofs.DifferenceLaws.{within_both, differs_at, agrees_before, none_differs, differs_nowhere}
use Rattle.compare_write.proofs.laws.the_first_difference_is_the_least.Goals as goal

pub returns-clause-differs : goal.returns-clause-differs
returns-clause-differs c = differs_at

pub returns-clause-before : goal.returns-clause-before
returns-clause-before c = agrees_before

pub returns-clause-within : goal.returns-clause-within
returns-clause-within c = within_both

pub returns-clause-none : goal.returns-clause-none
returns-clause-none c = λ xs ys long. (none_differs xs ys long, λ same. rw same (differs_nowhere ys))
