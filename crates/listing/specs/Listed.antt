-- How a query ends. No part of the exported promise.
use Rattle.std.specs.Prelude.{ℕ, ◌*◌, cond, List, leb, length, take}
use Rattle.definitions.specs.Layout.{TREE_ROW, NO_TREE_ROOM}
use Rattle.definitions.specs.Call.{Buffers}
use Rattle.definitions.specs.Caret.{Query, ListResult}
use Rattle.rows.specs.OnePass.{tree_rows_of, found}
use Rattle.caret.specs.Walk.{laid}
use Rattle.refinement.specs.Ends.{wiped}
use Rattle.call.specs.declared.Answer.{Answer}
use Rattle.call.specs.declared.list.ListAnswer.{ListAnswer}
use Rattle.call.specs.Ended.{refused_with}
use Rattle.call.specs.Result.{buffers_of, list_result_of}

abbrev pub counted : Answer → ℕ → ListAnswer
counted a n = record { answer = a; list_count = n }

-- a list of n numbers that was written to the front of its buffer: kept where it fits
abbrev pub ended : Answer → ℕ → List ℕ → Buffers → ListResult
ended a n list b =
    cond (leb n (length list)) (list_result_of (counted a n) (wiped n list) b)
    (list_result_of (counted (refused_with NO_TREE_ROOM 0) 0) (wiped 0 list)
    (buffers_of b.events (wiped 0 b.trees) (wiped 0 b.errors) (wiped 0 b.reports) (wiped 0 b.pool)))

-- the list that is found in the rows of an accepted parse
abbrev pub list_ends : Query → Answer → ℕ → List ℕ → Buffers → ListResult
list_ends q a size list b =
    let l = found q size (tree_rows_of (take (a.tree_count * TREE_ROW) b.trees)) in
    ended a (length l) (laid l list) b
