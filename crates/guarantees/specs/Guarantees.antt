-- The three demands, and what the customer's requests add, over what the calls mean. Each field is the sentence above it; the definitions that it names say the rest.
use Rattle.supply.specs.declared.record.Board.{Board}
use Rattle.supply.specs.Sound.{Sound}
use Rattle.supply.specs.SoundTest.{SoundTestDecides}
use Rattle.places.specs.PlaceLaws.{EveryPlaceHasItsItem, NoOtherItem, EveryItemHasItsPlaces, PlacesOfOnes}
use Rattle.places.specs.Spread.{PlanSpreads, MatchingReadsBack, PlansOfOnes}
use Rattle.places.specs.SpreadCover.{CoverSpreads, LeastPricesCover, LeastPricesTotal, TotalOfOnes}
use Rattle.places.specs.WeakDualityWith.{WeakDualityWith}
use Rattle.places.specs.StrongDualityWith.{StrongDualityWith}
use Rattle.places.specs.EqualExactlyWhenBestWith.{EqualExactlyWhenBestListsWith}
use Rattle.places.specs.ShareWith.{ShareWith}
use Rattle.places.specs.GreatestWeightWith.{GreatestWeightWith}
use Rattle.supply.specs.Laws.{PlacesAsItem, SoundOverPlaces, OnesAsAuction}
use Rattle.refusals.specs.Codes.{CodesApart}
use Rattle.refusals.specs.Told.{ToldApart}
use Rattle.bidding.specs.RuleLaws.{BestIsChosen, ChosenOnce, SecondOnce, SecondWithin, TiesByWeight, PairsWhole, RuleAdmissible, PotentialWithin, ChainOnce}
use Rattle.bidding.specs.SlideLaws.{TestMeans, PickMeans, TestThenPick, OpenAboveFloor, StateSteps, PlainSteps}
use Rattle.bidding.specs.SlideLaws.{UntilNow, BidBySlides, StepsInTurn, ChainBySlides}
use Rattle.bidding.specs.WithdrawalLaws.{AllGo, DisplacedInOrder, OrderOnce, ChainsOnce, WithdrawnIsChains, ListOfOne}
use Rattle.auction.specs.OneItem.{OneAsBefore, NoneChanged}
use Rattle.auction.specs.EnoughItems.{EnoughItems}
use Rattle.auction.specs.Demand1.{OpenDemand1, ArriveDemand1, WithdrawDemand1, ReadOutDemand1, CallOrders}
use Rattle.auction.specs.Demand2.{ArriveEnds, WithdrawEnds, ArriveDemand2, WithdrawDemand2, SoundDemand2, ReadOutDemand2}
use Rattle.auction.specs.Histories.{HistoryDemand2}
use Rattle.auction.specs.BySlides.{ArriveBySlides, WithdrawBySlides, HistoriesBySlides}
use Rattle.replay.specs.Says.{SaysOnce, LineSaid, LineMalformed}
use Rattle.replay.specs.TextDemand1.{TextsDemand1}
use Rattle.replay.specs.ReplayLaws.{ReplayEnds, LinesReached, LinesOpen, ReplayReached, RefusedBefore, LineItems}
use Rattle.hungarian.specs.Demand3.{EqualExactlyWhenBestOn, ExactGivesDemand3, ExactDemand1, ExactIsBest, ExactKeeps}
use Rattle.certificate.specs.Demand1.{CheckDemand1, CheckOrder}
use Rattle.comparison.specs.Demand1.{CompareDemand1, CompareOrder, ComparedApart, ComparesPlans}
use Rattle.comparison.specs.DifferenceLaws.{DifferenceExact, DifferenceWithin}
use Rattle.comparison.specs.OrderLaws.{OrderMeans, OrderTotal, SignsTell}
use Rattle.counting.specs.CountLaws.{CountIsBestTrial, TrialsArePlans, CountMeans, CountIsGreatest, CountOfOnes}
use Rattle.counting.specs.Demand1.{CountDemand1, CountOrder, CountTakes}
use Rattle.history.specs.Demand1.{PlansDemand1, SheetsDemand1}
use Rattle.history.specs.Laws.{PlanEnds, PrintedFigures}
use Rattle.history.specs.Wall.{WallsDemand1}
use Rattle.layout.specs.Statements.{RowsUnique, FirstBadUnique, FirstBadExists, ReadIsPage, ReadIsFirstBad}
use Rattle.page.specs.Demand1.{WriteDemand1, ReadDemand1, PageOrders}
use Rattle.page.specs.Laws.{BoardIsPage, BoardsFit, WeightsAdd, WritesSaid, ReadsSaid, ReadsBack}
use Rattle.guarantees.specs.Checks.{ExactAccepted, EqualTotalsBest, ReadOutAccepted}
use Rattle.guarantees.specs.BesideExact.{NoDifferenceBest}
use Rattle.guarantees.specs.BySlides.{LinesBySlides, ReplayBySlides}
use Rattle.guarantees.specs.Small.{SmallIsExact, SmallBySlack, SmallPrinted, SmallIsSharp}
use Rattle.guarantees.specs.BesideCount.{CountIsExact, CountPrinted}

-- Demand 1
pub record TableFirst : Type 0 where
  -- "If a call meets a condition in the table of refusals, it gives that number by the stated order of checks, and the board and each lent list stay byte
  -- for byte as they were; otherwise it is served."
  pub opens : OpenDemand1
  pub arrives : ArriveDemand1
  pub withdraws : WithdrawDemand1
  pub reads : ReadOutDemand1
  pub exact : ExactDemand1
  pub checks : CheckDemand1
  -- The same of a text: "each line is tested and carried out before the next"; what a line says is said apart from any reader
  pub texts : TextsDemand1
  pub said : LineSaid
  pub said_once : SaysOnce
  pub malformed : LineMalformed
  pub plans : PlansDemand1
  pub sheets : SheetsDemand1
  -- R-2: of a page that is written, of one that is read, and of the page of the board that a text reaches
  pub writes_page : WriteDemand1
  pub reads_page : ReadDemand1
  pub walls : WallsDemand1
  -- R-4: of two plans side by side
  pub compares : CompareDemand1
  -- R-9: of the slow count
  pub counts : CountDemand1
  -- "by the stated order of checks": the order of each call's checks, in numbers and places
  pub orders : CallOrders
  pub check_order : CheckOrder
  pub page_orders : PageOrders
  pub compare_order : CompareOrder
  pub count_order : CountOrder
  -- "A refusal returns number and place": no two refusals have both in common, so that they name one row; and what is told names one answer
  pub numbers : CodesApart
  pub told : ToldApart
  pub compared : ComparedApart
  -- "Every call ends."
  pub arrive_ends : ArriveEnds
  pub withdraw_ends : WithdrawEnds
  pub replay_ends : ReplayEnds
  pub plan_ends : PlanEnds

-- Demand 2
pub record QuickBids : Type 0 where
  -- "On the quick level each accepted call makes the bids of the paper's rule, no more and no fewer, and leaves the plan, prices and gains they give."
  -- And the list becomes the bidder's entries, the others' are as before, and the board after is sound
  pub arrives : ArriveDemand2
  pub withdraws : WithdrawDemand2
  -- "no more and no fewer": where an edge is open there is a chosen one, which is the computed one; there is one chosen edge, and one chain
  pub taken : BestIsChosen
  pub chosen : ChosenOnce
  pub chain : ChainOnce
  -- R-1: "of two kettles with equal utility a batch takes the one with the larger worth, and only then the lower number"
  pub ties : TiesByWeight
  -- "Prices plus gains total q + p times the plan's worth, and worth times q + p is at least q - p times the worth of every plan on the live sheet", on
  -- every sound board, and of the lists that are read out; and "I hold the dearest unplaced batch against each free kettle", so after every accepted
  -- arrival and withdrawal
  pub sound : SoundDemand2
  pub reads : ReadOutDemand2
  -- "the board handed in is not sound": the test decides it
  pub tested : SoundTestDecides
  -- "Over every history from opening, the bids number at most the entries ever accepted times the whole part of (q - 1)/p"; and a text's lines are such a
  -- history, call by call, with the text's own entries; one that is refused leaves the board of the lines before
  pub histories : HistoryDemand2
  pub lines : LinesReached
  pub texts : ReplayReached
  pub before : RefusedBefore
  -- So the printed figures hold
  pub printed : PrintedFigures
  -- The check accepts what is read out, on every sound board
  pub accepted : ReadOutAccepted

-- Demand 3
pub record EqualPairs : Type 0 where
  -- "Take any sound board, any plan on its live sheet and any list of whole-penny prices and gains that covers that sheet, whoever made them. The plan's
  -- worth equals the list's sum exactly when every other plan on that sheet is worth at most as much and every other covering list sums to at least as
  -- much."
  pub best : (b : Board) → Sound b → EqualExactlyWhenBestOn b
  -- "For every sound board, given lists long enough, the exact level leaves, in the lists it was lent, a plan on the live sheet and a covering list whose
  -- two totals are equal, and returns that total." Both halves in one piece, of every outcome of the call
  pub exact : ExactGivesDemand3
  -- "The exact level gives a plan of greatest worth"
  pub exact_best : ExactIsBest
  -- "Further cells keep what they held"
  pub kept : ExactKeeps
  -- The check sees it, and sees it of anyone's lists: "This must hold for plans that we didn't make"
  pub accepted : ExactAccepted
  pub checked : EqualTotalsBest

-- R-2, the page for the kitchen wall
pub record KitchenPage : Type 0 where
  -- Every sound board has a page within the limits, of 3,435 bytes at most; its worths add up to the plan's
  pub board : BoardIsPage
  pub bytes : BoardsFit
  pub weights : WeightsAdd
  -- A text is the page of one list of rows at most, and what is read of a text is the rows of which it is the page
  pub rows : RowsUnique
  pub is_page : ReadIsPage
  -- "a text not of this form is 14 at its first bad line (the one after the last, if it stops short)": there is one exactly where the text is no page,
  -- there is one only, and it is the computed one
  pub line : FirstBadExists
  pub line_once : FirstBadUnique
  pub is_line : ReadIsFirstBad
  -- What writing and reading answer, case by case: "8 if the lent page is too short, after 13"; "14 at its first bad line .., after 15, then 8 for lists
  -- too short"
  pub writes : WritesSaid
  pub reads : ReadsSaid
  -- "The page must read back to the same plan, worths and gains"
  pub back : ReadsBack

-- R-3, a steam line fails
pub record SteamLine : Type 0 where
  -- "All go first": every item of the list is withdrawn at price 0, and every holder is unplaced at gain 0, before the first bid; all else is as it was
  pub gone : AllGo
  -- "then the displaced batches bid in number order": those who held an item of the list, each once, in rising number; there is one such list
  pub in_order : DisplacedInOrder
  pub order_once : OrderOnce
  -- "each chain run to its end": one chain after the other has one outcome, which is the computed one; it is never spent, leaves a sound board, and makes
  -- at most as many bids as the potential rises by
  pub chains_once : ChainsOnce
  pub computed : WithdrawnIsChains
  -- "A list of one acts as before": the board and the count that the withdrawal of one item left until now; and so does the call, but for the place
  pub one : ListOfOne
  pub one_call : OneAsBefore
  -- "an empty list changes nothing in a call"
  pub none : NoneChanged
  -- Of any list the first 65 items decide; and a line is carried out with all its numbers
  pub enough : EnoughItems
  pub line : LineItems

-- R-4, two plans side by side
pub record SideBySide : Type 0 where
  -- The call answers a difference and an order exactly of two plans on a sound board's live sheet
  pub plans : ComparesPlans
  -- "the difference in pence, negative where the first is worth less": that of the weights as whole numbers, negated where the plans are exchanged; it is
  -- 64,000,000 at most, either way
  pub difference : DifferenceExact
  pub within : DifferenceWithin
  -- "the greater worth first, then by the plan's cells, the first smaller cell making the earlier plan"
  pub order : OrderMeans
  -- "The order must be total, and equal means the same cells."
  pub total : OrderTotal
  -- A difference above 0 is told with "earlier", one below with "later": the two answers never disagree
  pub signs : SignsTell
  -- With demand 3: a plan whose difference to the exact level's is 0 is a plan of greatest weight, and no other is
  pub best : NoDifferenceBest

-- R-5, the bid as the slides have it: "test open entries, pick, price, hand over"
pub record BidAsSlides : Type 0 where
  -- The first step keeps the open entries and no other; the second picks as R-1 says; one after the other they give the rule's choice
  pub tests : TestMeans
  pub picks : PickMeans
  pub chosen : TestThenPick
  -- The code tests a weight against the greatest that is not open at its item's price (the floor), which is the same
  pub floors : OpenAboveFloor
  -- The last two, on the lists that the code has, which are a state's, leave the board that they leave by definition; and so on lists of plain numbers
  pub lists : StateSteps
  pub plain : PlainSteps
  -- The bid as the rule defines it, since R-7 the bigger one, is that of which chains are made
  pub until_now : UntilNow
  -- "These four steps in turn .. must be shown equal to the bid as defined until now": on every board, of every bidder, whatever bids follow; so every
  -- chain is the same
  pub bid : BidBySlides
  pub in_turn : StepsInTurn
  pub chain : ChainBySlides
  -- "at every bid of every call on a sound board": what each accepted call leaves is what bids of these four steps leave, and it tells their
  -- number; the histories are those of such calls, and no other; so are the lines of every text that is replayed, up to one that is refused
  pub arrives : ArriveBySlides
  pub withdraws : WithdrawBySlides
  pub histories : HistoriesBySlides
  pub lines : LinesBySlides
  pub texts : ReplayBySlides

-- R-6, double and triple kettles
pub record MorePlaces : Type 0 where
  -- "each place has its own price": every place belongs to one item, and an item has as many places as its count says; with one place each, places are items
  pub item : EveryPlaceHasItsItem
  pub only : NoOtherItem
  pub count : EveryItemHasItsPlaces
  pub ones : PlacesOfOnes
  -- "A plan may name a kettle once per place": plans are the matchings over places, read by item, weight for weight; with one place each they are what
  -- plans were
  pub spreads : PlanSpreads
  pub back : MatchingReadsBack
  pub plain : PlansOfOnes
  -- "count a kettle's price once per place": a cover by item is one by place with the same sum, and one by place, at "a kettle's least price", is one by
  -- item that sums to no more; with one place each sums are what they were
  pub covers : CoverSpreads
  pub least : LeastPricesCover
  pub never_more : LeastPricesTotal
  pub sums : TotalOfOnes
  -- Of any numbers of batches, kettles and places: no plan beats a cover, some pair is equal, equal exactly when best, the share, the greatest worth
  pub weak : WeakDualityWith
  pub strong : StrongDualityWith
  pub equal : EqualExactlyWhenBestListsWith
  pub share : ShareWith
  pub greatest : GreatestWeightWith
  -- "Soundness is read place by place": every place has the entries of its kettle and goes with it, and what holds by place holds by kettle
  pub places : PlacesAsItem
  pub sound : SoundOverPlaces
  -- With one place each a board says by kettle what its auction says by place
  pub as_before : OnesAsAuction
  -- "After `K`, lines `P`, kettle, places may follow": the board that they open is the one that the call opens with those counts
  pub lines : LinesOpen

-- R-7, the bigger bid
pub record BiggerBid : Type 0 where
  -- "the leaf that finds the best place also returns the greatest utility of any other open place of that batch, 0 if none": the answer is right, there is one
  -- right answer, and it is no greater than the best's utility. (That the leaf answers it is `taken` of demand 2.)
  pub second : SecondOnce
  pub within : SecondWithin
  -- "placed pairs still sum to (q + p) × w"
  pub pairs : PairsWhole
  -- "The gain becomes that second utility, and the price rises by the lead plus p × w": such a bid is an admissible one, and admissible bids keep the board
  -- sound and raise the potential (bidding RuleLaws); the potential of no board is above "the entries ever accepted times the whole part of (q - 1)/p": "the
  -- bid bound must not loosen" (`histories` of demand 2, as it was)
  pub admissible : RuleAdmissible
  pub bound : PotentialWithin

-- R-8, small sheets come out exact
pub record SmallSheets : Type 0 where
  -- "Where 2 × p times the greatest worth of a plan on the live sheet, line `E`, is below q + p, the quick plan must be shown to have greatest worth": on
  -- every sound board, places and withdrawn kettles and all; and of every text that is carried out, `T` has the worth of `E`
  pub exact : SmallIsExact
  pub printed : SmallPrinted
  -- Which slack is small enough for a sheet in pounds
  pub slack : SmallBySlack
  -- "is below": where the two are equal it can fail
  pub sharp : SmallIsSharp

-- R-9, the slow count
pub record SlowCount : Type 0 where
  -- "it tries every free kettle and none for the first batch, then does likewise for the rest": the count is the greatest of all that may be tried so, of any
  -- batches, kettles and places
  pub tries : CountIsBestTrial
  -- What a trial adds up to is what a plan is worth, and nothing else is
  pub plans : TrialsArePlans
  -- "It returns the greatest worth": some plan is worth what is counted, and no plan is worth more
  pub means : CountMeans
  -- That is the greatest worth as the exact level has it, over all places; with one place each, over kettles
  pub greatest : CountIsGreatest
  pub ones : CountOfOnes
  -- "For up to 6 batches and 6 places": the call takes just these sound boards, and answers the count
  pub takes : CountTakes
  -- "this is to be shown equal to the exact level's on every sheet it takes"; and so to line `E` of every text that is carried out
  pub exact : CountIsExact
  pub printed : CountPrinted

pub record Guarantees : Type 0 where
  pub demand1 : TableFirst
  pub demand2 : QuickBids
  pub demand3 : EqualPairs
  pub page : KitchenPage
  pub steam : SteamLine
  pub sides : SideBySide
  pub slides : BidAsSlides
  pub places : MorePlaces
  pub bigger : BiggerBid
  pub small : SmallSheets
  pub count : SlowCount
