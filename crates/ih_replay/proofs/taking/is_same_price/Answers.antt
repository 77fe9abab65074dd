use Rattle.std.proofs.Common.{◌≡◌, ◌∙◌, ap, refl, sym, Bool, true, false}
use Rattle.std.specs.Prelude.{◌&&◌}
use Rattle.std.specs.Cmp.Rules.{signed_items}
use Rattle.ih_tables.specs.declared.bills.Bill.{Bill}
use Rattle.ih_replay.proofs.taking.is_same_price.Goals as goal

both : (s t : Bool) → s ≡ true → t ≡ true → (s && t) ≡ true
both s t hs ht = rw (hs, ht) refl

each : (s t : Bool) → (s && t) ≡ true → (s ≡ true) × (t ≡ true)
each true t h = (refl, h)
each false t h = absurd (let no : false ≡ true = h in cc)

pub returns-clause-yes : goal.returns-clause-yes
returns-clause-yes c on =
    let a = c.args.first.now in
    let b = c.args.second.now in
    let parts = each _ _ (sym c.eq.ensures ∙ on) in
    ap (λ v. let x : Bill = record { v = v; s = a.s } in x) ((signed_items a.v b.v).0 parts.0) ∙ ap (λ s. let x : Bill = record { v = b.v; s = s } in x) ((signed_items a.s b.s).0 parts.1)

pub returns-clause-no : goal.returns-clause-no
returns-clause-no c off same =
    let a = c.args.first.now in
    let b = c.args.second.now in
    let on = both _ _ ((signed_items a.v b.v).1 (ap (λ (x : Bill). x.v) same)) ((signed_items a.s b.s).1 (ap (λ (x : Bill). x.s) same)) in
    let no : false ≡ true = sym off ∙ c.eq.ensures ∙ on in
    cc
