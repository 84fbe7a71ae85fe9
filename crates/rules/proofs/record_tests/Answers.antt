use native.Mathlib.Nat.{mul-le-mul_right}
use Rattle.rules.proofs.Rules.{field_stop, kind_stop, leaf_pass, product_stop, record_pass}
use Rattle.std.proofs.Common.{rules}
use Rattle.rules.proofs.record_tests.Goals as goal

pub returns-then-not-fields_fit : goal.returns-then-not-fields_fit
returns-then-not-fields_fit c = field_stop _ _ _ _ _ _ _ c.requires.4 _ c.fields_fit.ensures c.if-not-fields_fit.true-raw

pub returns-then-not-kind_allowed : goal.returns-then-not-kind_allowed
returns-then-not-kind_allowed c = kind_stop _ _ _ _ _ _ _ c.requires.4 _ c.fields_fit.ensures c.if-not-fields_fit.false-raw _ c.kind_allowed.ensures c.if-not-kind_allowed.true-raw

pub returns-then-not-nests : goal.returns-then-not-nests
returns-then-not-nests c = let u = c.requires in leaf_pass _ _ _ _ _ _ _ u.4 _ c.fields_fit.ensures c.if-not-fields_fit.false-raw _ c.kind_allowed.ensures c.if-not-kind_allowed.false-raw _ c.nests.ensures c.if-not-nests.true-raw u.1 u.3

pub overflow_mul-around : goal.overflow_mul-around
overflow_mul-around c = let m = mul-le-mul_right c.turns_of.result c.requires.3 in search rules

pub returns-then-around-turns_of-gt-MOST_PRODUCT : goal.returns-then-around-turns_of-gt-MOST_PRODUCT
returns-then-around-turns_of-gt-MOST_PRODUCT c = product_stop _ _ _ _ _ _ _ c.requires.4 _ c.fields_fit.ensures c.if-not-fields_fit.false-raw _ c.kind_allowed.ensures c.if-not-kind_allowed.false-raw _ c.nests.ensures c.if-not-nests.false-raw _ _ _ c.first_arm.ensures.arm c.second_arm.ensures.arm c.deepest-limit.ensures (search rules) _ c.turns_of.ensures.turns c.if-around-turns_of-gt-MOST_PRODUCT.true

pub returns : goal.returns
returns c = record_pass _ _ _ _ _ _ _ c.requires.4 _ c.fields_fit.ensures c.if-not-fields_fit.false-raw _ c.kind_allowed.ensures c.if-not-kind_allowed.false-raw _ c.nests.ensures c.if-not-nests.false-raw _ _ _ c.first_arm.ensures.arm c.second_arm.ensures.arm c.deepest-limit.ensures (search rules) _ c.turns_of.ensures.turns c.if-around-turns_of-gt-MOST_PRODUCT.false
