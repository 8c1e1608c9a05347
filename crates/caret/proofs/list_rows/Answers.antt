-- `list_rows`: one walk or the other.
use mathlib.Core.Path.{ap}
use Rattle.rows.specs.OnePass.{tree_rows_of, found}
use Rattle.caret.specs.declared.Query.{Query}
use Rattle.caret.specs.Asked.{query_of}
use Rattle.caret.proofs.Offsets.{as_listed}
use Rattle.caret.proofs.list_rows.Goals as goal

pub returns-in-Caret : goal.returns-in-Caret
returns-in-Caret c =
    let a = c.args in
    let all = as_listed (ap (λ (q : Query). found (query_of q) a.size (tree_rows_of a.trees.now)) c.in-Caret.is) c.rows_at.ensures in
    record { value = all.many; list_after = all.listed }

pub returns-in-Range : goal.returns-in-Range
returns-in-Range c =
    let a = c.args in
    let all = as_listed (ap (λ (q : Query). found (query_of q) a.size (tree_rows_of a.trees.now)) c.in-Range.is) c.sharing.ensures in
    record { value = all.many; list_after = all.listed }
