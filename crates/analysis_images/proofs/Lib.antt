mod Truth
