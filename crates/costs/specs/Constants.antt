-- Constant costs within their bounds are lawful.
use Rattle.std.specs.Prelude.{ℕ, suc, ◌-◌, ◌≤◌}
use Rattle.std.proofs.Common.{mul-le-mul_left, arith}
use Rattle.theory.specs.Recursion.{LawfulCosts}
use Rattle.costs.specs.Constant.{constant_price}

pub constant_lawful : (setup unit holding : ℕ) → 1 ≤ setup → setup ≤ 1000000000 → unit ≤ 100000 → holding ≤ 3000 →
    LawfulCosts (λ _. setup) (constant_price unit holding)
constant_lawful setup unit holding charged setup_fits unit_fits holding_fits = record {
  charged = λ j _. charged;
  charge_fits = λ j _. setup_fits;
  later = λ j i _ _. omega (arith, mul-le-mul_left {m = i - suc j} {n = i - j} holding (omega arith));
  price_fits = λ j i _ _ near. omega (arith, mul-le-mul_left {m = i - j} {n = 255} holding near);
}
