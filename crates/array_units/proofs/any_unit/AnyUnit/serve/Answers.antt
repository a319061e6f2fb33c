use Rattle.array_units.proofs.any_unit.AnyUnit.serve.Goals as goal

pub returns-in-Zero : goal.returns-in-Zero
returns-in-Zero g c = rw c.in-Zero.is c.serve.ensures

pub returns-in-One : goal.returns-in-One
returns-in-One g c = rw c.in-One.is c.serve-in-One.ensures

pub returns-in-Two : goal.returns-in-Two
returns-in-Two g c = rw c.in-Two.is c.serve-in-Two.ensures

pub returns-in-Three : goal.returns-in-Three
returns-in-Three g c = rw c.in-Three.is c.serve-in-Three.ensures

pub returns-in-Four : goal.returns-in-Four
returns-in-Four g c = rw c.in-Four.is c.serve-in-Four.ensures

pub returns-in-Five : goal.returns-in-Five
returns-in-Five g c = rw c.in-Five.is c.serve-in-Five.ensures

pub returns-in-Six : goal.returns-in-Six
returns-in-Six g c = rw c.in-Six.is c.serve-in-Six.ensures

pub returns-in-Seven : goal.returns-in-Seven
returns-in-Seven g c = rw c.in-Seven.is c.serve-in-Seven.ensures
