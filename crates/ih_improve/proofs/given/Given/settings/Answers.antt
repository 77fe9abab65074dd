use Rattle.std.proofs.Common.{◌∙◌, ap}
use Rattle.std.specs.Prelude.{max, min, unwrap_or}
use Rattle.ih_improve.specs.Given.{usual_hot}
use Rattle.ih_improve.specs.declared.defaults.Defaults.{Defaults}
use Rattle.ih_improve.specs.declared.given.Given.{Given}
use Rattle.ih_improve.proofs.GivenSettings.{AreWithin, settings-of}
use Rattle.ih_improve.proofs.given.Given.settings.Goals as goal

pub returns : goal.returns
returns c =
    let g : Given = c.args.self.now in
    let d : Defaults = c.by_weights-usual.result in
    let within : AreWithin d = record { hot = c.by_weights-usual.ensures.hot; cold = c.by_weights-usual.ensures.cold; hard = c.by_weights-usual.ensures.hard; keep = c.by_weights-usual.ensures.keep } in
    settings-of g c.requires.lawful d within c.args.processors c.requires.some c.requires.few c.args.inst.now.draft c.by_weights-usual.ensures.value
    c.unwrap_or-3.result c.unwrap_or-hot.result c.unwrap_or-cold.result c.unwrap_or-4.result c.unwrap_or-keep.result c.unwrap_or-3.ensures
    (c.unwrap_or-hot.ensures ∙ ap (unwrap_or g.hot)
    (c.max.ensures ∙ (ap (λ n. max n c.unwrap_or.result) (c.usual_hot-warm.ensures ∙ ap (λ n. usual_hot n d) c.unwrap_or-keep.ensures) ∙ ap (max (usual_hot (unwrap_or g.keep d.keep) d)) c.unwrap_or.ensures)))
    (c.unwrap_or-cold.ensures ∙ ap (unwrap_or g.cold) (c.min.ensures ∙ ap (min d.cold) c.unwrap_or-2.ensures)) c.unwrap_or-4.ensures c.unwrap_or-keep.ensures
