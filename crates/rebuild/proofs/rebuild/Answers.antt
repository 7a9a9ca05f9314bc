-- `rebuild` meets its contract: Read of the previous file, Build under its identity, and the next versions decide, one
-- after the other. Assumes nothing.
use Rattle.std.proofs.Common.{sym, subst, ◌∙◌}
use Rattle.std.proofs.lemmas.Result.{err_from_is_err_and}
use lib.Pointwise.{bytes_decides}
use lib.Seq.{length-take-le}
use Rattle.eit.specs.Fields.{Bytes}
use Rattle.eit.specs.Pools.{Pools}
use Rattle.eit.specs.Sizes.{sizes_of}
use Rattle.eit.specs.declared.Caller.{Caller}
use Rattle.eit.proofs.Fields.{bytes_all}
use Rattle.eit.proofs.Numbers.{caller_least, caller_most, caller_few}
use Rattle.schedule.proofs.Given.{LegalSizes, legal_sizes}
use Rattle.rebuild.proofs.AnswerLaws.{answer_previous, answer_refused, size_inside, answer_kept, answer_changed}
use Rattle.rebuild.proofs.rebuild.Goals as goal

legal : (caller : Caller) → LegalSizes (sizes_of caller)
legal caller = legal_sizes (sizes_of caller) (caller_least caller) (caller_most caller) (caller_few caller)

pub returns-in_err-identity : goal.returns-in_err-identity
returns-in_err-identity c =
    let exit = err_from_is_err_and c.from_residual.result c.from_residual.ensures.1 in
    rw (exit.1, exit.2) (answer_previous _ _ _ _ _ _ _ _ c.in_err-identity.ensures)

pub returns-in_err-size : goal.returns-in_err-size
returns-in_err-size c =
    let exit =
    err_from_is_err_and c.from_residual-in_err-size.result c.from_residual-in_err-size.ensures.1 in
    let bytes = bytes_all c.args.previous.now (λ k. (c.type_inv.previous k).fits) in
    rw (exit.1, exit.2) (answer_refused _ _ _ _ _ _ _ bytes _ c.in_ok-identity.ensures _ _ c.in_err-size.ensures)

-- the file that Build wrote is in the output
inside : goal.slice_bounds-next_versions-end
inside c =
    size_inside _ _ _ _ _ _ _
    (bytes_all c.args.previous.now (λ k. (c.type_inv.previous k).fits)) _ c.in_ok-identity.ensures
    (legal c.args.caller) (subst (λ (p : Pools). Bytes p.day) c.pools.view_is c.pools.invariant.0)
    (subst (λ (p : Pools). Bytes p.series) c.pools.view_is c.pools.invariant.1) _ _ c.in_ok-size.ensures

pub slice_bounds-next_versions-end : goal.slice_bounds-next_versions-end
slice_bounds-next_versions-end c = inside c

pub slice_bounds-next_versions-end-2 : goal.slice_bounds-next_versions-end-2
slice_bounds-next_versions-end-2 c = sym (length-take-le _ _ (inside c))

pub returns-then-eq : goal.returns-then-eq
returns-then-eq c =
    let next = c.next_versions-next in
    answer_kept _ _ _ _ _ _ _
    (bytes_all c.args.previous.now (λ k. (c.type_inv.previous k).fits)) _ c.in_ok-identity.ensures
    (legal c.args.caller) (subst (λ (p : Pools). Bytes p.day) c.pools.view_is c.pools.invariant.0)
    (subst (λ (p : Pools). Bytes p.series) c.pools.view_is c.pools.invariant.1) _ _ c.in_ok-size.ensures
    _ next.ensures
    ((bytes_decides next.result c.in_ok-identity.field-0.identity.versions).0 (sym c.eq.ensures ∙ c.if-eq.true))

pub returns-in_err-build : goal.returns-in_err-build
returns-in_err-build c =
    let exit =
    err_from_is_err_and c.from_residual-in_err-build.result c.from_residual-in_err-build.ensures.1 in
    rw (exit.1, exit.2)
    (answer_changed _ _ _ _ _ _ _
    (bytes_all c.args.previous.now (λ k. (c.type_inv.previous k).fits)) _ c.in_ok-identity.ensures
    (legal c.args.caller) (subst (λ (p : Pools). Bytes p.day) c.pools.view_is c.pools.invariant.0)
    (subst (λ (p : Pools). Bytes p.series) c.pools.view_is c.pools.invariant.1) _ _ c.in_ok-size.ensures
    _ c.next_versions-next.ensures c.in_err-build.ensures)

pub returns : goal.returns
returns c =
    answer_changed _ _ _ _ _ _ _
    (bytes_all c.args.previous.now (λ k. (c.type_inv.previous k).fits)) _ c.in_ok-identity.ensures
    (legal c.args.caller) (subst (λ (p : Pools). Bytes p.day) c.pools.view_is c.pools.invariant.0)
    (subst (λ (p : Pools). Bytes p.series) c.pools.view_is c.pools.invariant.1) _ _ c.in_ok-size.ensures
    _ c.next_versions-next.ensures c.in_ok-build.ensures
