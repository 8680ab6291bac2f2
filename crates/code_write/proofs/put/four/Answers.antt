-- Place by place: the first that is not 0 says no (`four_not`), and after four zeros it is yes (`four_all`).
use Prim.Native.Nat.{◌+◌}
use mathlib.Core.Path.{refl, sym, ◌∙◌}
use mathlib.Core.List.{map}
use native.Mathlib.Omega.{arith}
use lib.ListN.{length-map}
use Rattle.code.specs.Fold.{fold_z}
use Rattle.code_write.specs.laws.Item.{zeros_here, zeros_one, four_all, four_not}
use Rattle.code_write.proofs.put.four.Goals as goal

pub returns-then-folded_at-ne0 : goal.returns-then-folded_at-ne0
returns-then-folded_at-ne0 c =
    let l = map fold_z c.args.xs.now in
    let j = c.args.j in
    let n = length-map c.args.xs.now fold_z in
    four_not l j j (omega arith) (omega (arith, n, c.requires.1)) (λ e. c.if-folded_at-ne0.true (c.folded_at.ensures ∙ e)) (zeros_here l j)

pub returns-then-folded_at-ne0-2 : goal.returns-then-folded_at-ne0-2
returns-then-folded_at-ne0-2 c =
    let l = map fold_z c.args.xs.now in
    let j = c.args.j in
    let n = length-map c.args.xs.now fold_z in
    let z1 = zeros_one l j j (j + 1) refl (omega (arith, n, c.requires.1)) (sym c.folded_at.ensures ∙ c.if-folded_at-ne0.false) (zeros_here l j) in
    four_not l j (j + 1) (omega arith) (omega (arith, n, c.requires.1)) (λ e. c.if-folded_at-ne0-2.true (c.folded_at-2.ensures ∙ e)) z1

pub returns-then-folded_at-ne0-3 : goal.returns-then-folded_at-ne0-3
returns-then-folded_at-ne0-3 c =
    let l = map fold_z c.args.xs.now in
    let j = c.args.j in
    let n = length-map c.args.xs.now fold_z in
    let z1 = zeros_one l j j (j + 1) refl (omega (arith, n, c.requires.1)) (sym c.folded_at.ensures ∙ c.if-folded_at-ne0.false) (zeros_here l j) in
    let z2 = zeros_one l j (j + 1) (j + 2) (omega arith) (omega (arith, n, c.requires.1)) (sym c.folded_at-2.ensures ∙ c.if-folded_at-ne0-2.false) z1 in
    four_not l j (j + 2) (omega arith) (omega (arith, n, c.requires.1)) (λ e. c.if-folded_at-ne0-3.true (c.folded_at-3.ensures ∙ e)) z2

pub folded_at-requires-4 : goal.folded_at-requires-4
folded_at-requires-4 c =
    (omega (arith, c.requires.1), c.requires.0)

pub returns-then-folded_at-ne0-4 : goal.returns-then-folded_at-ne0-4
returns-then-folded_at-ne0-4 c =
    let l = map fold_z c.args.xs.now in
    let j = c.args.j in
    let n = length-map c.args.xs.now fold_z in
    let z1 = zeros_one l j j (j + 1) refl (omega (arith, n, c.requires.1)) (sym c.folded_at.ensures ∙ c.if-folded_at-ne0.false) (zeros_here l j) in
    let z2 = zeros_one l j (j + 1) (j + 2) (omega arith) (omega (arith, n, c.requires.1)) (sym c.folded_at-2.ensures ∙ c.if-folded_at-ne0-2.false) z1 in
    let z3 = zeros_one l j (j + 2) (j + 3) (omega arith) (omega (arith, n, c.requires.1)) (sym c.folded_at-3.ensures ∙ c.if-folded_at-ne0-3.false) z2 in
    four_not l j (j + 3) (omega arith) (omega (arith, n, c.requires.1)) (λ e. c.if-folded_at-ne0-4.true (c.folded_at-4.ensures ∙ e)) z3

pub returns : goal.returns
returns c =
    let l = map fold_z c.args.xs.now in
    let j = c.args.j in
    let n = length-map c.args.xs.now fold_z in
    let z1 = zeros_one l j j (j + 1) refl (omega (arith, n, c.requires.1)) (sym c.folded_at.ensures ∙ c.if-folded_at-ne0.false) (zeros_here l j) in
    let z2 = zeros_one l j (j + 1) (j + 2) (omega arith) (omega (arith, n, c.requires.1)) (sym c.folded_at-2.ensures ∙ c.if-folded_at-ne0-2.false) z1 in
    let z3 = zeros_one l j (j + 2) (j + 3) (omega arith) (omega (arith, n, c.requires.1)) (sym c.folded_at-3.ensures ∙ c.if-folded_at-ne0-3.false) z2 in
    let z4 = zeros_one l j (j + 3) (j + 4) (omega arith) (omega (arith, n, c.requires.1)) (sym c.folded_at-4.ensures ∙ c.if-folded_at-ne0-4.false) z3 in
    four_all l j (j + 4) refl z4
