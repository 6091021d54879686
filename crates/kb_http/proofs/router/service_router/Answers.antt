use Rattle.std.proofs.Common.{◌≡◌, List, [], ◌∷◌, refl}
use Rattle.std.specs.Prelude.{Some, None, Result, Ok, Err}
use Rattle.std.proofs.lemmas.Result.{err_from_is_err_and}
use Rattle.matchit.specs.Route.{Scan, parse_route}
use Rattle.matchit.specs.Order.{placed}
use Rattle.matchit.specs.Router.{RouteOf, Refused, nearest, route_from}
use Rattle.matchit.specs.Rows.{RowsOf}
use Rattle.matchit.specs.declared.error.InsertError.{InsertError}
use Rattle.matchit.specs.declared.error.InsertError.TheVariants.{Conflict, OutOfMemory, InvalidParamSegment}
use Rattle.matchit.specs.declared.error.InsertError.TheVariants.{InvalidParam, InvalidCatchAll}
use Rattle.matchit.proofs.OnLiterals.{matchit_on_literals}
use Rattle.kb_http.specs.declared.kind.Kind.{Kind}
use Rattle.kb_http.specs.declared.kind.Kind.TheVariants.{Commands, Janitor, Account}
use Rattle.kb_http.specs.declared.kind.Kind.TheVariants.{Invoice, Payment, Subscription}
use Rattle.kb_http.specs.Rows.{pattern_of, rows_by, text_of}
use Rattle.kb_http.specs.Shapes.{shape_of}
use Rattle.kb_http.proofs.router.service_router.Goals as goal

-- what is read of a text
abbrev route_read : Kind → Result Scan InsertError → RouteOf Kind
route_read kind (Ok read) = route_from read kind
route_read kind (Err error) = record { pattern = []; text = []; names = []; value = kind }

abbrev route_at : Kind → RouteOf Kind
route_at kind = route_read kind (parse_route (text_of kind))

values-read : (kind : Kind) (read : Result Scan InsertError) → (route_read kind read).value ≡ kind
values-read kind (Ok read) = refl
values-read kind (Err error) = refl

texts-read : (kind : Kind) → (route_at kind).text ≡ text_of kind
unfolding matchit_on_literals
texts-read Commands = refl
texts-read Janitor = refl
texts-read Account = refl
texts-read Invoice = refl
texts-read Payment = refl
texts-read Subscription = refl

-- the rows of a router into which the routes of some kinds were inserted, the last of them first
abbrev rows_after : List Kind → RowsOf (RouteOf Kind)
rows_after [] = []
rows_after (kind ∷ kinds) = placed ((route_at kind).pattern, route_at kind) (rows_after kinds)

-- the rows before the route of a kind is inserted
abbrev rows_before : Kind → RowsOf (RouteOf Kind)
rows_before Commands = []
rows_before Janitor = rows_after (Commands ∷ [])
rows_before Account = rows_after (Janitor ∷ Commands ∷ [])
rows_before Invoice = rows_after (Account ∷ Janitor ∷ Commands ∷ [])
rows_before Payment = rows_after (Invoice ∷ Account ∷ Janitor ∷ Commands ∷ [])
rows_before Subscription = rows_after (Payment ∷ Invoice ∷ Account ∷ Janitor ∷ Commands ∷ [])

-- where no route conflicts, an insert is refused for want of memory alone
only_memory : (kind : Kind) (held : RowsOf (RouteOf Kind)) (error : InsertError) → held ≡ rows_before kind
    → nearest (pattern_of (shape_of kind)) (rows_before kind) ≡ None
    → Refused (pattern_of (shape_of kind)) held error → error ≡ OutOfMemory
only_memory kind held (Conflict with) same none refused =
    let gone : nearest (pattern_of (shape_of kind)) held ≡ None = rw same none in
    let found : nearest (pattern_of (shape_of kind)) held ≡ Some refused.0 = refused.1 in
    absurd (cc)
only_memory kind held OutOfMemory same none refused = refl
only_memory kind held InvalidParamSegment same none refused = elim refused [ ]
only_memory kind held InvalidParam same none refused = elim refused [ ]
only_memory kind held InvalidCatchAll same none refused = elim refused [ ]

pub returns-in_err-insert-clause-err : goal.returns-in_err-insert-clause-err
unfolding matchit_on_literals
returns-in_err-insert-clause-err c =
    let failed = err_from_is_err_and c.from_residual.result c.from_residual.ensures.1 in
    rw (failed.1, failed.2)
    (only_memory Commands c.new-router.result c.in_err-insert.field-0.0
    c.new-router.ensures refl
    c.in_err-insert.ensures.1)

pub returns-in_err-insert-2-clause-err : goal.returns-in_err-insert-2-clause-err
unfolding matchit_on_literals
returns-in_err-insert-2-clause-err c =
    let one = c.in_ok-insert.ensures in
    let failed
    = err_from_is_err_and c.from_residual-in_err-insert-2.result c.from_residual-in_err-insert-2.ensures.1 in
    rw (failed.1, failed.2)
    (only_memory Janitor c.insert.new.self c.in_err-insert-2.field-0.0
    (rw (one.1, c.new-router.ensures) (refl {a = rows_before Janitor})) refl
    c.in_err-insert-2.ensures.1)

pub returns-in_err-insert-3-clause-err : goal.returns-in_err-insert-3-clause-err
unfolding matchit_on_literals
returns-in_err-insert-3-clause-err c =
    let one = c.in_ok-insert.ensures in
    let two = c.in_ok-insert-2.ensures in
    let failed
    = err_from_is_err_and c.from_residual-in_err-insert-3.result c.from_residual-in_err-insert-3.ensures.1 in
    rw (failed.1, failed.2)
    (only_memory Account c.insert-2.new.self c.in_err-insert-3.field-0.0
    (rw (two.1, one.1, c.new-router.ensures) (refl {a = rows_before Account})) refl
    c.in_err-insert-3.ensures.1)

pub returns-in_err-insert-4-clause-err : goal.returns-in_err-insert-4-clause-err
unfolding matchit_on_literals
returns-in_err-insert-4-clause-err c =
    let one = c.in_ok-insert.ensures in
    let two = c.in_ok-insert-2.ensures in
    let three = c.in_ok-insert-3.ensures in
    let failed
    = err_from_is_err_and c.from_residual-in_err-insert-4.result c.from_residual-in_err-insert-4.ensures.1 in
    rw (failed.1, failed.2)
    (only_memory Invoice c.insert-3.new.self c.in_err-insert-4.field-0.0
    (rw (three.1, two.1, one.1, c.new-router.ensures) (refl {a = rows_before Invoice})) refl
    c.in_err-insert-4.ensures.1)

pub returns-in_err-insert-5-clause-err : goal.returns-in_err-insert-5-clause-err
unfolding matchit_on_literals
returns-in_err-insert-5-clause-err c =
    let one = c.in_ok-insert.ensures in
    let two = c.in_ok-insert-2.ensures in
    let three = c.in_ok-insert-3.ensures in
    let four = c.in_ok-insert-4.ensures in
    let failed
    = err_from_is_err_and c.from_residual-in_err-insert-5.result c.from_residual-in_err-insert-5.ensures.1 in
    rw (failed.1, failed.2)
    (only_memory Payment c.insert-4.new.self c.in_err-insert-5.field-0.0
    (rw (four.1, three.1, two.1, one.1, c.new-router.ensures) (refl {a = rows_before Payment})) refl
    c.in_err-insert-5.ensures.1)

pub returns-in_err-insert-6-clause-err : goal.returns-in_err-insert-6-clause-err
unfolding matchit_on_literals
returns-in_err-insert-6-clause-err c =
    let one = c.in_ok-insert.ensures in
    let two = c.in_ok-insert-2.ensures in
    let three = c.in_ok-insert-3.ensures in
    let four = c.in_ok-insert-4.ensures in
    let five = c.in_ok-insert-5.ensures in
    let failed
    = err_from_is_err_and c.from_residual-in_err-insert-6.result c.from_residual-in_err-insert-6.ensures.1 in
    rw (failed.1, failed.2)
    (only_memory Subscription c.insert-5.new.self c.in_err-insert-6.field-0.0
    (rw (five.1, four.1, three.1, two.1, one.1, c.new-router.ensures) (refl {a = rows_before Subscription}))
    refl c.in_err-insert-6.ensures.1)

pub returns-clause-ok : goal.returns-clause-ok
unfolding matchit_on_literals
returns-clause-ok c =
    let one = c.in_ok-insert.ensures in
    let two = c.in_ok-insert-2.ensures in
    let three = c.in_ok-insert-3.ensures in
    let four = c.in_ok-insert-4.ensures in
    let five = c.in_ok-insert-5.ensures in
    let six = c.in_ok-insert-6.ensures in
    record {
      key = route_at;
      rows =
          rw (six.1, five.1, four.1, three.1, two.1, one.1, c.new-router.ensures)
          (refl {a = rows_by route_at});
      values = λ kind. values-read kind (parse_route (text_of kind));
      texts = texts-read;
    }
