mod FitTests
