-- The page, by citing the crates below.
use Rattle.refusals.proofs.Verdicts.{codes-apart}
use Rattle.refusals.proofs.Answers.{told-apart}
use Rattle.places.proofs.PlaceLaws.{every-place-has-its-item, no-other-item, every-item-has-its-places, places-of-ones}
use Rattle.places.proofs.Spread.{plan-spreads, matching-reads-back, plans-of-ones}
use Rattle.places.proofs.SpreadCover.{cover-spreads, least-prices-cover, least-prices-total, total-of-ones}
use Rattle.places.proofs.WeakDualityWith.{weak-duality-with}
use Rattle.places.proofs.StrongDualityWith.{strong-duality-with}
use Rattle.places.proofs.EqualExactlyWhenBestWith.{equal-exactly-when-best-lists-with}
use Rattle.places.proofs.ShareWith.{share-with}
use Rattle.places.proofs.GreatestWeightWith.{greatest-weight-with}
use Rattle.supply.proofs.SoundLaw.{sound-decides}
use Rattle.supply.proofs.ByItem.{places-as-item, sound-over-places, ones-as-auction}
use Rattle.bidding.proofs.Choices.{best-is-chosen, chosen-once, second-once, second-within, ties-by-weight}
use Rattle.bidding.proofs.Bids.{pairs-whole, rule-admissible}
use Rattle.bidding.proofs.Potentials.{potential-within}
use Rattle.bidding.proofs.Chains.{chain-once}
use Rattle.bidding.proofs.Rolls.{displaced-in-order, order_once}
use Rattle.bidding.proofs.AboveFloors.{open-above-floor}
use Rattle.bidding.proofs.Slides.{test-means, pick-means, test-then-pick, state-steps, plain-steps, until_now, bid-by-slides, steps-in-turn, chain-by-slides}
use Rattle.bidding.proofs.Vacating.{all_go}
use Rattle.bidding.proofs.Withdrawing.{chains_once, withdrawn-is-chains, list-of-one}
use Rattle.auction.proofs.Demand1.{open-demand-1, arrive-demand-1, withdraw-demand-1, read-out-demand-1, call-orders}
use Rattle.auction.proofs.Demand2.{arrive_ends, withdraw_ends, arrive-demand-2, withdraw-demand-2, sound-demand-2}
use Rattle.auction.proofs.ReadOuts.{read-out-demand-2}
use Rattle.auction.proofs.Histories.{history-demand-2}
use Rattle.auction.proofs.BySlides.{arrive-by-slides, withdraw-by-slides, histories-by-slides}
use Rattle.auction.proofs.EnoughItems.{enough-items}
use Rattle.auction.proofs.OneItem.{one-as-before, none-changed}
use Rattle.replay.proofs.LinePairs.{line-items}
use Rattle.replay.proofs.Saying.{line-said, says-once, line-malformed}
use Rattle.replay.proofs.ReplayLaws.{replay_ends, texts-demand-1, lines-reached, lines-open, replay-reached, refused-before}
use Rattle.hungarian.proofs.Exacts.{best-on, exact-is-best, exact-keeps, exact-gives-demand-3, exact-demand-1}
use Rattle.certificate.proofs.Demand1.{check-demand-1, check_order}
use Rattle.comparison.proofs.Demand1.{compare-demand-1, compare_order, compares-plans}
use Rattle.comparison.proofs.Differences.{difference-exact, difference-within}
use Rattle.comparison.proofs.Orders.{order-means, order-total, signs-tell}
use Rattle.comparison.proofs.Outcomes.{compared-apart}
use Rattle.counting.proofs.Counts.{count-is-best-trial, trials-are-plans, count-means, count-is-greatest, count-of-ones}
use Rattle.counting.proofs.Demand1.{count-demand-1, count_order, count-takes}
use Rattle.history.proofs.Demand1.{plans-demand-1, sheets-demand-1}
use Rattle.history.proofs.Laws.{plan_ends, printed-figures}
use Rattle.history.proofs.Walls.{walls-demand-1}
use Rattle.layout.proofs.Statements.{rows-unique, first-bad-unique, first-bad-exists, read-is-page, read-is-first-bad}
use Rattle.page.proofs.Rows.{board-is-page, boards-fit, weights-add}
use Rattle.page.proofs.WriteLaws.{write-demand-1}
use Rattle.page.proofs.ReadLaws.{read-demand-1}
use Rattle.page.proofs.Demand1.{page_orders}
use Rattle.page.proofs.Laws.{writes-said, reads-said, reads-back}
use Rattle.guarantees.specs.Guarantees.{TableFirst, QuickBids, EqualPairs, KitchenPage, SteamLine, SideBySide, BidAsSlides, MorePlaces, BiggerBid, SmallSheets, SlowCount, Guarantees}
use Rattle.guarantees.proofs.Checks.{exact-accepted, equal-totals-best, read-out-accepted}
use Rattle.guarantees.proofs.BesideExact.{no-difference-best}
use Rattle.guarantees.proofs.BySlides.{lines-by-slides, replay-by-slides}
use Rattle.guarantees.proofs.Small.{small-is-exact, small-printed, small-by-slack}
use Rattle.guarantees.proofs.Sharp.{small-is-sharp}
use Rattle.guarantees.proofs.BesideCount.{count-is-exact, count-printed}

demand-1 : TableFirst
demand-1 =
    record {
      opens = open-demand-1;
      arrives = arrive-demand-1;
      withdraws = withdraw-demand-1;
      reads = read-out-demand-1;
      exact = exact-demand-1;
      checks = check-demand-1;
      texts = texts-demand-1;
      said = line-said;
      said_once = says-once;
      malformed = line-malformed;
      plans = plans-demand-1;
      sheets = sheets-demand-1;
      writes_page = write-demand-1;
      reads_page = read-demand-1;
      walls = walls-demand-1;
      compares = compare-demand-1;
      counts = count-demand-1;
      orders = call-orders;
      check_order = check_order;
      page_orders = page_orders;
      compare_order = compare_order;
      count_order = count_order;
      numbers = codes-apart;
      told = told-apart;
      compared = compared-apart;
      arrive_ends = arrive_ends;
      withdraw_ends = withdraw_ends;
      replay_ends = replay_ends;
      plan_ends = plan_ends;
    }

demand-2 : QuickBids
demand-2 =
    record {
      arrives = arrive-demand-2;
      withdraws = withdraw-demand-2;
      taken = best-is-chosen;
      chosen = chosen-once;
      chain = chain-once;
      ties = ties-by-weight;
      sound = sound-demand-2;
      reads = read-out-demand-2;
      tested = sound-decides;
      histories = history-demand-2;
      lines = lines-reached;
      texts = replay-reached;
      before = refused-before;
      printed = printed-figures;
      accepted = read-out-accepted;
    }

demand-3 : EqualPairs
demand-3 =
    record {
      best = best-on;
      exact = exact-gives-demand-3;
      exact_best = exact-is-best;
      kept = exact-keeps;
      accepted = exact-accepted;
      checked = equal-totals-best;
    }

kitchen-page : KitchenPage
kitchen-page =
    record {
      board = board-is-page;
      bytes = boards-fit;
      weights = weights-add;
      rows = rows-unique;
      is_page = read-is-page;
      line = first-bad-exists;
      line_once = first-bad-unique;
      is_line = read-is-first-bad;
      writes = writes-said;
      reads = reads-said;
      back = reads-back;
    }

steam-line : SteamLine
steam-line =
    record {
      gone = all_go;
      in_order = displaced-in-order;
      order_once = order_once;
      chains_once = chains_once;
      computed = withdrawn-is-chains;
      one = list-of-one;
      one_call = one-as-before;
      none = none-changed;
      enough = enough-items;
      line = line-items;
    }

side_by_side : SideBySide
side_by_side =
    record {
      plans = compares-plans;
      difference = difference-exact;
      within = difference-within;
      order = order-means;
      total = order-total;
      signs = signs-tell;
      best = no-difference-best;
    }

bid-as-slides : BidAsSlides
bid-as-slides =
    record {
      tests = test-means;
      picks = pick-means;
      chosen = test-then-pick;
      floors = open-above-floor;
      lists = state-steps;
      plain = plain-steps;
      until_now = until_now;
      bid = bid-by-slides;
      in_turn = steps-in-turn;
      chain = chain-by-slides;
      arrives = arrive-by-slides;
      withdraws = withdraw-by-slides;
      histories = histories-by-slides;
      lines = lines-by-slides;
      texts = replay-by-slides;
    }

more-places : MorePlaces
more-places =
    record {
      item = every-place-has-its-item;
      only = no-other-item;
      count = every-item-has-its-places;
      ones = places-of-ones;
      spreads = plan-spreads;
      back = matching-reads-back;
      plain = plans-of-ones;
      covers = cover-spreads;
      least = least-prices-cover;
      never_more = least-prices-total;
      sums = total-of-ones;
      weak = weak-duality-with;
      strong = strong-duality-with;
      equal = equal-exactly-when-best-lists-with;
      share = share-with;
      greatest = greatest-weight-with;
      places = places-as-item;
      sound = sound-over-places;
      as_before = ones-as-auction;
      lines = lines-open;
    }

bigger-bid : BiggerBid
bigger-bid = record { second = second-once; within = second-within; pairs = pairs-whole; admissible = rule-admissible; bound = potential-within }

small-sheets : SmallSheets
small-sheets = record { exact = small-is-exact; printed = small-printed; slack = small-by-slack; sharp = small-is-sharp }

slow-count : SlowCount
slow-count =
    record {
      tries = count-is-best-trial;
      plans = trials-are-plans;
      means = count-means;
      greatest = count-is-greatest;
      ones = count-of-ones;
      takes = count-takes;
      exact = count-is-exact;
      printed = count-printed;
    }

pub guarantees : Guarantees
guarantees =
    record {
      demand1 = demand-1;
      demand2 = demand-2;
      demand3 = demand-3;
      page = kitchen-page;
      steam = steam-line;
      sides = side_by_side;
      slides = bid-as-slides;
      places = more-places;
      bigger = bigger-bid;
      small = small-sheets;
      count = slow-count;
    }
