use Rattle.std.proofs.Common.{◌≡◌, cond, [], ◌∷◌, map, length, Ok, sym, ap, ◌∙◌, arith}
use Rattle.std.proofs.lemmas.Map.Keys.{le_from_not_gt}
use Rattle.sheet.specs.Given.{value_at}
use Rattle.sheet.specs.Making.{refused}
use Rattle.sheet.proofs.InOrder.{values_by_place, in_time, in_range_at}
use Rattle.sheet.proofs.making.valued.Goals as goal

pub invariant_of-result : goal.invariant_of-result
invariant_of-result c =
    let p = c.args.period.length.0 in
    let ts = c.args.timings in
    let h : length c.args.timings ≡ 13 = omega (arith, c.well_formed) in record {
      rcd_in = in_range_at p ts 0 _ _ h c.requires (omega arith) c.value.ensures;
      rp_in = in_range_at p ts 1 _ _ h c.requires (omega arith) c.value-2.ensures;
      ras_in = in_range_at p ts 2 _ _ h c.requires (omega arith) c.value-3.ensures;
      rc_in = in_range_at p ts 3 _ _ h c.requires (omega arith) c.value-4.ensures;
      rrd_in = in_range_at p ts 4 _ _ h c.requires (omega arith) c.value-5.ensures;
      faw_in = in_range_at p ts 5 _ _ h c.requires (omega arith) c.value-6.ensures;
      ccd_in = in_range_at p ts 6 _ _ h c.requires (omega arith) c.value-7.ensures;
      rtp_in = in_range_at p ts 7 _ _ h c.requires (omega arith) c.value-8.ensures;
      wr_in = in_range_at p ts 8 _ _ h c.requires (omega arith) c.value-9.ensures;
      wtr_in = in_range_at p ts 9 _ _ h c.requires (omega arith) c.value-10.ensures;
      rl_in = in_range_at p ts 10 _ _ h c.requires (omega arith) c.value-rl.ensures;
      wl_in = in_range_at p ts 11 _ _ h c.requires (omega arith) c.value-wl.ensures;
      burst_in = in_range_at p ts 12 _ _ h c.requires (omega arith) c.value-11.ensures;
      latencies = le_from_not_gt _ _ (sym c.if-gt.ensures);
    }

pub returns : goal.returns
returns c =
    let p = c.args.period.length.0 in
    let ts = c.args.timings in
    let h : length c.args.timings ≡ 13 = omega (arith, c.well_formed) in
    ap Ok ((λ i. c.value.ensures i ∷ c.value-2.ensures i ∷ c.value-3.ensures i ∷ c.value-4.ensures i ∷ c.value-5.ensures i ∷ c.value-6.ensures i ∷ c.value-7.ensures i ∷ c.value-8.ensures i ∷ c.value-9.ensures i ∷ c.value-10.ensures i ∷ c.value-rl.ensures i ∷ c.value-wl.ensures i ∷ c.value-11.ensures i ∷ []) ∙ values_by_place p ts _ h)
    ∙ sym (ap (λ b. cond b (refused 4) (Ok (map (value_at p) ts)))
    (in_time p ts _ _ _ h c.value-rl.ensures c.value-wl.ensures (le_from_not_gt _ _ (sym c.if-gt.ensures))))
