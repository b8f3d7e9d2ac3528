use Rattle.std.proofs.Common.{map, arith}
use Rattle.std.proofs.lemmas.Bool.Decides.{nat_tests}
use Rattle.windows.specs.Sets.{range}
use Rattle.windows.specs.Rows.{span_numbers}
use Rattle.sums.proofs.SumSteps.{numbers_window}
use Rattle.products.specs.Products.{multiplied, divided}
use Rattle.products.proofs.ProductSteps.{three_written, three_pushed, missing}
use Rattle.products.proofs.product.Product.new_windows.Goals as goal

pub returns-in_err-first : goal.returns-in_err-first
returns-in_err-first c = let x = c.args.self.now in missing x.p x.q x.r x.p (map span_numbers c.args.rows.now) _ _ (grind (arith, nat_tests)) c.in_err-first.ensures c.from_residual.ensures

pub returns-in_err-second : goal.returns-in_err-second
returns-in_err-second c = let x = c.args.self.now in missing x.p x.q x.r x.q (map span_numbers c.args.rows.now) _ _ (grind (arith, nat_tests)) c.in_err-second.ensures c.from_residual-in_err-second.ensures

pub returns-in_err-product : goal.returns-in_err-product
returns-in_err-product c = let x = c.args.self.now in missing x.p x.q x.r x.r (map span_numbers c.args.rows.now) _ _ (grind (arith, nat_tests)) c.in_err-product.ensures c.from_residual-in_err-product.ensures

pub returns : goal.returns
returns c =
    let x = c.args.self.now in
    let s = c.in_ok-first.first in
    let t = c.in_ok-second.second in
    let u = c.in_ok-product.product in
    let S = range s.lo s.hi in
    let T = range t.lo t.hi in
    let U = range u.lo u.hi in
    let e = three_pushed x.p x.q x.r _ _ _ _ _ _ _ (x.near, x.different) c.new-new.ensures c.push.ensures c.push-2.ensures c.push-3.ensures in
    three_written x.p x.q x.r (map span_numbers c.args.rows.now) _ s.lo s.hi t.lo t.hi u.lo u.hi _ _ _ x.different s.stands.0 t.stands.0 u.stands.0 c.in_ok-first.ensures c.in_ok-second.ensures c.in_ok-product.ensures e (numbers_window (divided S U T) c.divided.result c.divided.ensures) (numbers_window (divided T U S) c.divided-2.result c.divided-2.ensures) (numbers_window (multiplied U S T) c.multiplied.result c.multiplied.ensures)
